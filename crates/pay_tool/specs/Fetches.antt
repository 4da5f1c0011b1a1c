-- How often a run fetches at most.
use Rattle.std.specs.Prelude.{ℕ, ◌+◌, List, [], ◌∷◌, Option}
use Rattle.pay_edge.specs.Edge.{Files}
use Rattle.pay_words.specs.Requests.{Asked}
use Rattle.pay_tool.specs.Causes.{InputFile, inputs_fetched}

-- one fetch more than its limit for each input
abbrev pub fetches_of : List InputFile → ℕ
fetches_of [] = 0
fetches_of (input ∷ inputs) = (input.limit + 1) + fetches_of inputs

-- the most fetches for a request: those of its inputs up to the first that isn't accepted
abbrev pub most_fetches : Option Asked → Option Files → ℕ
most_fetches asked told = fetches_of (inputs_fetched asked told)
