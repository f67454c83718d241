-- The spelling of one level of data.
use Rattle.std.proofs.Common.{◌≡◌, ◌≢◌, ℕ, ℤ, suc, ◌-◌, List, ◌++◌, sym, ap, ◌∙◌, append_assoc, arith, rules}
use Rattle.plain_data.specs.declared.data.Data.{Data, roll-Data, out-Data, the_lemmas}
use Rattle.plain_data.specs.declared.data.Data as D
use Rattle.plain_data.specs.declared.data.Data.TheVariants.{rolls-Whole, rolls-Text, rolls-List, rolls-Record}
use Rattle.plain_data.specs.declared.data.Data.TheOpen.{Data-F}
use Rattle.link_fields.specs.Basic.{u8, u16, text}
use Rattle.link_fields.specs.Values.{whole, counted, ascending, level, value}

out_roll : (l : Data-F Data) → out-Data (roll-Data l) ≡ l
out_roll l = search (rules, the_lemmas)

spelled : (depth : ℕ) (l : Data-F Data) → depth ≢ 0 → (value depth).spell (roll-Data l) ≡ (level (value (depth - 1))).spell l
unfolding value
spelled depth l ne =
    let e : depth ≡ suc (depth - 1) = omega arith in
    ap (λ n. (value n).spell (roll-Data l)) e ∙ ap (level (value (depth - 1))).spell (out_roll l)

pub spell_whole : (depth : ℕ) (v : Data) (z : ℤ) → depth ≢ 0 → v ≡ D.Whole z → (value depth).spell v ≡ u8.spell 4 ++ whole.spell z
spell_whole depth v z ne e = ap (value depth).spell e ∙ ap (value depth).spell (sym (rolls-Whole z)) ∙ spelled depth (Data-F.Whole z) ne

pub spell_text : (depth : ℕ) (v : Data) (s : List ℕ) → depth ≢ 0 → v ≡ D.Text s → (value depth).spell v ≡ u8.spell 5 ++ text.spell s
spell_text depth v s ne e = ap (value depth).spell e ∙ ap (value depth).spell (sym (rolls-Text s)) ∙ spelled depth (Data-F.Text s) ne

pub spell_list : (depth : ℕ) (v : Data) (ds : List Data) → depth ≢ 0 → v ≡ D.List ds → (value depth).spell v ≡ u8.spell 6 ++ (counted u16 (value (depth - 1))).spell ds
spell_list depth v ds ne e = ap (value depth).spell e ∙ ap (value depth).spell (sym (rolls-List ds)) ∙ spelled depth (Data-F.List ds) ne

pub spell_record : (depth : ℕ) (v : Data) (ms : List (List ℕ × Data)) → depth ≢ 0 → v ≡ D.Record ms → (value depth).spell v ≡ u8.spell 7 ++ (ascending (value (depth - 1))).spell ms
spell_record depth v ms ne e = ap (value depth).spell e ∙ ap (value depth).spell (sym (rolls-Record ms)) ∙ spelled depth (Data-F.Record ms) ne

pub two_written : (old tagged new tag inside all : List ℕ) → tagged ≡ old ++ tag → all ≡ tag ++ inside → new ≡ tagged ++ inside → new ≡ old ++ all
two_written old tagged new tag inside all e a f = rw (f, e, a) (append_assoc old tag inside)

pub three_written : (old tagged counted_ new tag count inside all : List ℕ) → tagged ≡ old ++ tag → counted_ ≡ tagged ++ count → all ≡ tag ++ (count ++ inside) → new ≡ counted_ ++ inside → new ≡ old ++ all
three_written old tagged counted_ new tag count inside all e g a f = rw (f, g, e, a) (append_assoc (old ++ tag) count inside ∙ append_assoc old tag (count ++ inside))
