-- What the definitions compute stands in the lemmas.
use Rattle.law_model.proofs.WorkedMultiplexer.{mux_classes, mux_essentials, mux_cone, mux_sources, mux_variables, mux_denied}
use Rattle.law_model.proofs.MultiplexerQuery.{mux_query_is}
use Rattle.law_model.proofs.worked.multiplexer_by_hand.Goals as goal

pub returns-clause-classes : goal.returns-clause-classes
returns-clause-classes c = mux_classes

pub returns-clause-essentials : goal.returns-clause-essentials
returns-clause-essentials c = mux_essentials

pub returns-clause-cone : goal.returns-clause-cone
returns-clause-cone c = mux_cone

pub returns-clause-sources : goal.returns-clause-sources
returns-clause-sources c = mux_sources

pub returns-clause-variables : goal.returns-clause-variables
returns-clause-variables c = mux_variables

pub returns-clause-denied : goal.returns-clause-denied
returns-clause-denied c = mux_denied

pub returns-clause-query : goal.returns-clause-query
returns-clause-query c = mux_query_is
