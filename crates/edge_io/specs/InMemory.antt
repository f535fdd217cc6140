-- Promise: how files and a sink in memory answer, and which of their calls fail.
use Rattle.std.specs.Prelude.{ℕ, ◌+◌, min, Bool, ◌||◌, ◌==◌, nat_lt, if◌then◌else◌, List, [], ◌++◌, length, take, Some, unwrap_or}
use Rattle.std.specs.List.{list_any}
use Rattle.std.specs.Option.{is_none}
use Rattle.edge_io.specs.declared.content.NamedText.{NamedText}
use Rattle.edge_io.specs.Contents.{content_of}
use Rattle.edge_io.specs.Outside.{ToldFiles, counted}

-- what files tell that never fail: a name that doesn't stand here is empty
abbrev pub sure_told : List NamedText → ToldFiles
sure_told texts = record { content = λ name. Some (unwrap_or (content_of texts name) []); faults = λ _. 0 }

-- the call that comes after so many calls is to fail, by its number
abbrev pub is_chosen : List ℕ → ℕ → Bool
is_chosen numbers calls = list_any (λ number. number == counted calls) numbers

-- files in memory: what they hold, the numbers of the reads that are to fail, and how many reads and faults there were
pub record FilesInMemory : Type 0 where
  pub contents : List NamedText
  pub fail_reads : List ℕ
  pub reads : ℕ
  pub faults : ℕ

-- a read of this name fails: its number is to fail, or the name isn't there
abbrev pub read_fails : FilesInMemory → List ℕ → Bool
read_fails files name = is_chosen files.fail_reads files.reads || is_none (content_of files.contents name)

-- the files after a read of this name: one read more, and one fault more where it failed
abbrev pub after_read : FilesInMemory → List ℕ → FilesInMemory
after_read files name = record files { reads = counted files.reads; faults = if read_fails files name then counted files.faults else files.faults }

-- a sink in memory: what was written, the room for it, the most that one write takes, the numbers of the writes that are to fail, and how many writes and faults there were
pub record SinkInMemory : Type 0 where
  pub written : List ℕ
  pub room : ℕ
  pub most : ℕ
  pub fail_writes : List ℕ
  pub writes : ℕ
  pub faults : ℕ

-- how many bytes of the piece one write takes
abbrev pub part_of : SinkInMemory → List ℕ → ℕ
part_of sink piece = min (length piece) sink.most

-- a write of this piece fails: its number is to fail, or the bytes that it takes are more than the room that is left
abbrev pub write_fails : SinkInMemory → List ℕ → Bool
write_fails sink piece = is_chosen sink.fail_writes sink.writes || nat_lt sink.room (length sink.written + part_of sink piece)

-- the sink after a write of this piece: one write more, and one fault more where it failed, else the bytes that it took
abbrev pub after_write : SinkInMemory → List ℕ → SinkInMemory
after_write sink piece =
    if write_fails sink piece then record sink { writes = counted sink.writes; faults = counted sink.faults }
    else record sink { writes = counted sink.writes; written = sink.written ++ take (part_of sink piece) piece }
