-- What is seen of the system's files and streams: counts, which file is open, and of a file or a stream what it tells itself.
use Rattle.std.specs.Prelude.{ℕ, List, string_bytes}
use Rattle.std.specs.declared.option.Option.{Option}
use Rattle.std.specs.declared.option.Option.TheVariants.{None, Some}
use Rattle.std.specs.Option.{option_map}
use Rattle.pay_edge.specs.Edge.{Files}
use Rattle.pay_edge.specs.Failures.{count_of}
use Rattle.pay_edge.specs.declared.stream_sink.StreamSink.{StreamSink}
use Rattle.pay_edge.specs.declared.file_depot.FileDepot.{FileDepot}
use Rattle.pay_edge.specs.declared.file_depot.OpenFile.{OpenFile}

module _ {W : Type 0} where
  -- a sink over a stream tells no text
  abbrev pub no_text : StreamSink W → Option (List ℕ)
  no_text sink = None

  -- how often a put failed
  abbrev pub stream_faults : StreamSink W → ℕ
  stream_faults sink = sink.faults

  -- what a sink's stream holds, by what such streams tell
  abbrev pub held : (W → Option (List ℕ)) → StreamSink W → Option (List ℕ)
  held contents sink = contents sink.stream

module _ {F : Type 0} where
  -- the name of a file that is open
  abbrev pub named : Option (OpenFile F) → Option (List ℕ)
  named opened = option_map (λ file. string_bytes file.name) opened

  -- the same, and the byte that it stands at
  abbrev pub stands : Option (OpenFile F) → Option (List ℕ × ℕ)
  stands opened = option_map (λ file. (string_bytes file.name, file.place)) opened

  -- what such files tell, of the one that is open
  abbrev pub told_of : (F → Option (List ℕ)) → Option (OpenFile F) → Option (List ℕ)
  told_of tell None = None
  told_of tell (Some opened) = tell opened.file

-- of a runtime, with its types of files
module _ {R A B : Type 0} where
  -- a depot over the files of the system tells no file
  abbrev pub no_files : FileDepot R A B → Option Files
  no_files depot = None

  -- how often a fetch of each name failed
  abbrev pub file_read_faults : FileDepot R A B → List ℕ → ℕ
  file_read_faults depot = count_of depot.failed.items

  -- how often a replace failed
  abbrev pub file_write_faults : FileDepot R A B → ℕ
  file_write_faults depot = depot.write_faults

  -- how many fetches there were
  abbrev pub file_fetches : FileDepot R A B → ℕ
  file_fetches depot = depot.fetches

  -- the file that a depot has open, and the byte that it stands at
  abbrev pub standing : FileDepot R A B → Option (List ℕ × ℕ)
  standing depot = stands depot.opened

  -- what it has left, by what such files tell
  abbrev pub left : (A → Option (List ℕ)) → FileDepot R A B → Option (List ℕ)
  left remaining depot = told_of remaining depot.opened
