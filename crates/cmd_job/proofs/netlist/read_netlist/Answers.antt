-- What the text comes to is the answer.
use Rattle.cmd_job.proofs.OneNetlist.{answer_is, netlist_fits}
use Rattle.cmd_job.proofs.netlist.read_netlist.Goals as goal

pub returns-clause-exact : goal.returns-clause-exact
returns-clause-exact c = answer_is c.args.text.now c.args.top.now c.find_netlist.result c.find_netlist.ensures.netlist c.find_netlist.ensures.refused

pub returns-clause-fits : goal.returns-clause-fits
returns-clause-fits c = netlist_fits c.args.text.now c.args.top.now c.find_netlist.result c.find_netlist.ensures.netlist c.find_netlist.ensures.fits
