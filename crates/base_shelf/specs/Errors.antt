-- What becomes of a fault of a shelf or a sink in the calls over whole files.
use Rattle.base_shelf.specs.declared.fault.IoErr.{IoErr}
use Rattle.base_shelf.specs.declared.fault.IoErr.TheVariants.{Failed, Memory}
use Rattle.base_shelf.specs.declared.fault.ReadErr.{ReadErr}
use Rattle.base_shelf.specs.declared.fault.ReadErr.TheVariants.{Fault as ReadFault, Memory as ReadMemory}
use Rattle.base_shelf.specs.declared.fault.WriteErr.{WriteErr}
use Rattle.base_shelf.specs.declared.fault.WriteErr.TheVariants.{Fault as WriteFault, Memory as WriteMemory}

abbrev pub read_err : IoErr → ReadErr
read_err Failed = ReadFault
read_err Memory = ReadMemory

abbrev pub write_err : IoErr → WriteErr
write_err Failed = WriteFault
write_err Memory = WriteMemory
