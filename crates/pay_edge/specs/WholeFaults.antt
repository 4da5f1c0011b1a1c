-- Why a file is not read as a whole, by why a fetch gave no bytes.
use Rattle.pay_edge.specs.declared.depot.FetchFault.{FetchFault}
use Rattle.pay_edge.specs.declared.depot.FetchFault.TheVariants as fetch
use Rattle.pay_edge.specs.declared.whole.WholeFault.{WholeFault}
use Rattle.pay_edge.specs.declared.whole.WholeFault.TheVariants.{Absent, Failed, NoMemory}

-- the fault of a whole of which a fetch gave no bytes
abbrev pub fault_of_fetch : FetchFault → WholeFault
fault_of_fetch fetch.Absent = Absent
fault_of_fetch fetch.Failed = Failed
fault_of_fetch fetch.NoMemory = NoMemory
