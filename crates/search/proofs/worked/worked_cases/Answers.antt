use Rattle.search.proofs.WorkedCases.{all_worked}
use Rattle.search.proofs.worked.worked_cases.Goals as goal

pub returns-clause-right : goal.returns-clause-right
returns-clause-right c = all_worked
