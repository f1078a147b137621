use Rattle.response.proofs.Meaning.{window_is_longest_delay}
use Rattle.response.proofs.laws.window_in_words.Goals as goal

pub returns : goal.returns
returns c = window_is_longest_delay
