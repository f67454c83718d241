-- A ledger keeps what it keeps: as entries join, a renderer is lost or told.
use Rattle.std.proofs.Common.{◌≡◌, ℕ, ◌+◌, ◌≤◌, ◌<◌, ◌^◌, List, [], ◌∷◌, ◌++◌, length, length-append, IsTrue, Bool, true, false, refl, sym, ap, subst, ◌∙◌, arith, inl, inr, if◌then◌else◌}
use Rattle.std.specs.Prelude.{get_or, slice_set, ◌==◌}
use Rattle.std.proofs.lemmas.Bool.Decides.{eqb_tells, nat_tests}
use Rattle.agent_terms.specs.Limits.{most_entries}
use Rattle.coordinator_rules.specs.Decision.{Rules}
use Rattle.exchange_laws.proofs.Fit.Starts.{lost_fits}
use Rattle.single_agent.specs.LegalLog.{lost_entry}
use Rattle.single_agent.specs.LegalRecord.{is_loss, is_lost_on}
use Rattle.tree_log.specs.Admits.{admits}
use Rattle.tree_log.specs.Range.{AreInRange}
use Rattle.tree_log.specs.Tree.{tree_of}
use Rattle.tree_log.proofs.Admitted.{few_of}
use Rattle.tree_log.specs.declared.entry.Entry.{Entry}
use Rattle.desk.specs.declared.telling.Telling.{Telling}
use Rattle.desk.specs.Books.{TellingsValue, IsKept, AllJoin, HasRoomFor, Joins, KeepsFit, MayJoin, count_true}
use Rattle.desk.specs.History.{told_in, newest_at}
use Rattle.desk.proofs.Fitting.{range_newest}
use Rattle.desk.proofs.Marks.{count_marked, count_within, length_marked, marked, unmarked}

pub none_lost : (r : ℕ) → is_lost_on r [] ≡ false
unfolding is_lost_on
none_lost r = refl

one_more : (log : List Entry) (e : Entry) (r : ℕ) → is_loss r e ≡ false → is_lost_on r (e ∷ log) ≡ is_lost_on r log
unfolding is_lost_on
one_more log e r h = rw h refl

-- entries join
none_more : (es log : List Entry) (r : ℕ) → AllJoin es → is_lost_on r (es ++ log) ≡ is_lost_on r log
none_more [] log r each = refl
none_more (e ∷ es) log r each = one_more (es ++ log) e r (each.0.staying r) ∙ none_more es log r each.1

few_entered : (es log : List Entry) (n : ℕ) → HasRoomFor es log → length log ≤ most_entries + n → length (es ++ log) ≤ most_entries + n
few_entered [] log n room few = few
few_entered (e ∷ es) log n room few = let l = length-append es log in omega arith

pub kept_entered : (rules : Rules) (log now es : List Entry) (t : TellingsValue) (lost : List Bool) → IsKept rules log t lost → MayJoin es log → KeepsFit rules es log
    → AreInRange now → now ≡ es ++ log → IsKept rules now t lost
kept_entered rules log now es t lost k j f range is = subst (λ l. IsKept rules l t lost) (sym is) (record {
  some = k.some;
  not_many = k.not_many;
  seats = k.seats;
  admitted = j.admitted;
  fit = f.kept k.fit (range_newest es log now is range);
  placed = let p = k.placed in let l = length-append es log in omega arith;
  within = λ r. let w = k.within r in let l = length-append es log in omega arith;
  marks = k.marks;
  losses = λ r. k.losses r ∙ sym (none_more es log r j.each);
  few = few_entered es log (count_true lost) j.room k.few;
})

-- and one does
pub kept_joined : (rules : Rules) (log now : List Entry) (t : TellingsValue) (lost : List Bool) (e : Entry) → IsKept rules log t lost → length log < most_entries
    → IsTrue (admits (tree_of log) e) → Joins e → KeepsFit rules (e ∷ []) log → AreInRange now → now ≡ e ∷ log → IsKept rules now t lost
kept_joined rules log now t lost e k few a j f range is =
    kept_entered rules log now (e ∷ []) t lost k (record { admitted = (a, k.admitted); each = (j, tt); room = omega arith }) f range is

-- a renderer is lost
lost_now : (log : List Entry) (lost : List Bool) (r x : ℕ) → ((q : ℕ) → get_or lost q false ≡ is_lost_on q log) → r < length lost
    → get_or (slice_set lost r true) x false ≡ is_lost_on x (lost_entry r ∷ log)
unfolding is_lost_on
lost_now log lost r x h lt = elim (eqb_tells r x) [
  | inl p ↦ rw p.0 (ap (λ q. get_or (slice_set lost r true) q false) (sym p.1) ∙ marked lost r true lt)
  | inr p ↦ rw p.0 (unmarked lost r x true p.1 ∙ h x)
]

pub lost_admitted : (log : List Entry) (r : ℕ) → length log < 2 ^ 30 → admits (tree_of log) (lost_entry r) ≡ true
unfolding admits
lost_admitted log r few = let len = (few_of log).len in grind (arith, nat_tests)

-- a ledger's log is short
pub kept_short : (rules : Rules) (log : List Entry) (t : TellingsValue) (lost : List Bool) → IsKept rules log t lost → length log + 1 < 2 ^ 30
kept_short rules log t lost k = let s = k.not_many in let f = k.few in let w = count_within lost in let m = k.marks in omega arith

pub kept_lost : (rules : Rules) (log now : List Entry) (t : TellingsValue) (lost : List Bool) (r : ℕ) → IsKept rules log t lost → r < rules.renderers
    → is_lost_on r log ≡ false → now ≡ lost_entry r ∷ log → IsKept rules now t (slice_set lost r true)
kept_lost rules log now t lost r k lt there is =
    let small : length log + 1 < 2 ^ 30 = kept_short rules log t lost k in
    let a : admits (tree_of log) (lost_entry r) ≡ true = lost_admitted log r (omega (arith, small)) in
    let seat : r < length lost = let m = k.marks in omega arith in
    subst (λ l. IsKept rules l t (slice_set lost r true)) (sym is) (record {
      some = k.some;
      not_many = k.not_many;
      seats = k.seats;
      admitted = (a, k.admitted);
      fit = lost_fits rules log r k.fit (let s = k.not_many in omega arith) small;
      placed = let p = k.placed in omega arith;
      within = λ q. let w = k.within q in omega arith;
      marks = length_marked lost r true ∙ k.marks;
      losses = λ q. lost_now log lost r q k.losses seat;
      few = let f = k.few in let c = count_marked lost r seat (k.losses r ∙ there) in omega arith;
    })

-- a renderer is told
told_now : (ts : List Telling) (r upto at x m : ℕ) → upto ≤ m → told_in ts x ≤ m → told_in (record { renderer = r; upto = upto; at = at } ∷ ts) x ≤ m
told_now ts r upto at x m h k = by_seat (r == x) where
  by_seat : (b : Bool) → (if b then upto else told_in ts x) ≤ m
  by_seat true = h
  by_seat false = k

pub kept_told : (rules : Rules) (log : List Entry) (t now : TellingsValue) (lost : List Bool) (r upto at : ℕ) → IsKept rules log t lost → upto ≤ length log → at ≡ length log
    → now.told ≡ record { renderer = r; upto = upto; at = at } ∷ t.told → now.renderers ≡ t.renderers → IsKept rules log now lost
kept_told rules log t now lost r upto at k le is told seats = record {
  some = k.some;
  not_many = k.not_many;
  seats = seats ∙ k.seats;
  admitted = k.admitted;
  fit = k.fit;
  placed = subst (λ ts. newest_at ts ≤ length log) (sym told) (omega (arith, is));
  within = λ q. subst (λ ts. told_in ts q ≤ length log) (sym told) (told_now t.told r upto at q (length log) le (k.within q));
  marks = k.marks;
  losses = k.losses;
  few = k.few;
}
