-- The options of a run as plain data, and what one more makes of them: what the functions that read options promise.
use Rattle.std.specs.Prelude.{codes, ◌&&◌, Option, Some, None, if◌then◌else◌}
use Rattle.std.specs.Option.{is_none, option_copied}
use Rattle.std.specs.Str.{bytes_eq}
use Rattle.pay_words.specs.Requests.{PastWords, RunOptions, Given}
use Rattle.pay_words.specs.declared.options.GivenPast.{GivenPast}
use Rattle.pay_words.specs.declared.options.RunOptions as code

-- the values of options
abbrev pub values : code.RunOptions → RunOptions
values options = record { fixings = option_copied options.fixings; asof = option_copied options.asof }

-- the words of past fixings
abbrev pub given_past : GivenPast → PastWords
given_past past = record { file = past.file.now; asof = past.asof }

-- options with one more, if it is an option of `run` that has no value yet
abbrev pub with_option : RunOptions → Given → Option RunOptions
with_option options option =
    if bytes_eq option.0 (codes "--fixings") && is_none options.fixings then Some (record options { fixings = Some option.1 })
    else if bytes_eq option.0 (codes "--asof") && is_none options.asof then Some (record options { asof = Some option.1 })
    else None
