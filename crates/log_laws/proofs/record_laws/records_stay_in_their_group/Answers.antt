use Rattle.log_laws.proofs.Records.Belonging.{record_registers, record_stores}
use Rattle.log_laws.proofs.record_laws.records_stay_in_their_group.Goals as goal

pub returns-clause-registers : goal.returns-clause-registers
returns-clause-registers c = record_registers

pub returns-clause-properties : goal.returns-clause-properties
returns-clause-properties c = record_stores
