-- The lines of a log, an entry at a time.
use Rattle.std.proofs.Common.{◌≡◌, ℕ, ◌<◌, ◌≤◌, codes, decimal, ◌+◌, List, ◌++◌, length, reverse, take, get_or, ap, ◌∙◌, arith, take_all}
use Rattle.std.proofs.lemmas.List.{take_more, length-reverse}
use Rattle.std.proofs.lemmas.Grind.{common_steps}
use Rattle.tree_log.specs.declared.entry.Entry.{Entry}
use Rattle.origin_core.specs.Flags.{◌◊◌}
use Rattle.trace_text.specs.LogText.{log_lines, entry_line, log_words}
use Rattle.tree_log.proofs.Places.{reverse_push}

first_so_many : (entries : List Entry) (i : ℕ) → i < length entries → length (reverse (take i entries)) ≡ i
first_so_many entries i lt = length-reverse (take i entries) ∙ grind (arith, common_steps)

-- one line more
pub line_more : (entries : List Entry) (i : ℕ) (e : Entry) → i < length entries
    → log_lines (reverse (take (i + 1) entries)) ≡ log_lines (reverse (take i entries)) ++ entry_line i (get_or entries i e)
line_more entries i e lt =
    ap (λ xs. log_lines (reverse xs)) (take_more entries i e lt) ∙ ap log_lines (reverse_push (take i entries) (get_or entries i e))
    ∙ ap (λ k. log_lines (reverse (take i entries)) ++ entry_line k (get_or entries i e)) (first_so_many entries i lt)

-- the whole log, once all entries are written
pub all_lines : (entries log : List Entry) (i : ℕ) (out : List ℕ) → reverse entries ≡ log → length entries ≤ i
    → out ≡ codes "log " ◊ decimal (length log) ◊ codes "\n" ◊ log_lines (reverse (take i entries)) → out ≡ log_words log
unfolding log_words
all_lines entries log i out same done e =
    e ∙ ap (λ xs. codes "log " ◊ decimal (length log) ◊ codes "\n" ◊ log_lines (reverse xs)) (take_all i entries done)
    ∙ ap (λ xs. codes "log " ◊ decimal (length log) ◊ codes "\n" ◊ log_lines xs) same
