use Rattle.response.proofs.Meaning.{blocking_is_longest, one_job_is_least_solution}
use Rattle.response.proofs.laws.one_job_in_words.Goals as goal

pub returns-clause-blocking : goal.returns-clause-blocking
returns-clause-blocking c = blocking_is_longest

pub returns-clause-answer : goal.returns-clause-answer
returns-clause-answer c = one_job_is_least_solution
