use Rattle.response.proofs.Table.{all_worked}
use Rattle.response.proofs.worked.worked_cases.Goals as goal

pub returns-clause-right : goal.returns-clause-right
returns-clause-right c = all_worked
