-- The lines of a record, an act at a time.
use Rattle.std.proofs.Common.{◌≡◌, ℕ, ◌+◌, ◌<◌, ◌≤◌, List, [], ◌∷◌, ◌++◌, length, reverse, take, get_or, codes, decimal, sym, ap, ◌∙◌, take_all}
use Rattle.std.proofs.lemmas.List.{take_more, length-reverse, reverse-append}
use Rattle.origin_core.specs.Flags.{◌◊◌}
use Rattle.agent_terms.specs.declared.act.Act.{Act}
use Rattle.trace_text.specs.RecordText.{act_line, act_lines, record_words}

-- one line more
pub act_more : (acts : List Act) (i : ℕ) (a : Act) → i < length acts
    → act_lines (reverse (take (i + 1) acts)) ≡ act_lines (reverse (take i acts)) ++ act_line (get_or acts i a)
act_more acts i a lt =
    ap (λ xs. act_lines (reverse xs)) (take_more acts i a lt) ∙ ap act_lines (reverse-append (take i acts) (get_or acts i a ∷ []))

-- the whole record, once all acts are written
pub all_acts : (acts : List Act) (i r : ℕ) (out : List ℕ) → length acts ≤ i
    → out ≡ codes "record " ◊ decimal r ◊ codes " " ◊ decimal (length acts) ◊ codes "\n" ◊ act_lines (reverse (take i acts)) → out ≡ record_words r (reverse acts)
unfolding record_words
all_acts acts i r out done e =
    e ∙ ap (λ xs. codes "record " ◊ decimal r ◊ codes " " ◊ decimal (length acts) ◊ codes "\n" ◊ act_lines (reverse xs)) (take_all i acts done)
    ∙ ap (λ n. codes "record " ◊ decimal r ◊ codes " " ◊ decimal n ◊ codes "\n" ◊ act_lines (reverse acts)) (sym (length-reverse acts))
