-- The count of a journal's last record, or 0 where it has none.
use Rattle.std.specs.Prelude.{ℕ, ◌-◌, if◌then◌else◌, List, nat_lt, length}
use Rattle.rules.specs.Packing.{word_at}
use Rattle.rules.specs.Journal.{record_bytes}

abbrev pub last_count : List ℕ → ℕ
last_count journal = if nat_lt (length journal) record_bytes then 0 else word_at journal (length journal - 8)
