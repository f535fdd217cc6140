use Rattle.std.proofs.Common.{◌≡◌, map}
use Rattle.std.specs.List.{list_all}
use Rattle.std.specs.Prelude.{drop}
use Rattle.torx_words.specs.Values.{is_name}
use Rattle.torx_words.proofs.values.are_names.Given as goal

-- the files so far are names
abbrev pub invariant-loop-file : goal.invariant-loop-file
invariant-loop-file l = list_all is_name (map (λ w. w.now) (drop l.file-index l.files)) ≡ list_all is_name (map (λ w. w.now) l.files)
