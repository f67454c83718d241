-- The marks of what was discarded, and how each that is below a cut gets one.
use Rattle.std.proofs.Common.{◌≡◌, ℕ, zero, suc, ◌+◌, ◌<◌, ◌≤◌, List, [], ◌∷◌, ◌++◌, Bool, true, false, cond, refl, ap, sym, subst, ◌∙◌, length, get_or, set, drop, inl, inr, arith, eqb, eq-eqb, Option, Some, None, ◌||◌, ◌⊎◌, ⊎_elim, length-set}
use Rattle.std.specs.List.{All}
use Rattle.std.proofs.lemmas.Bool.Decides.{eqb_tells}
use Rattle.std.proofs.lemmas.Bool.{cases_Bool, or_cases, or_left, or_right, or_from, or_parts, eqb-true, not-false, false_from_ne_true}
use Rattle.std.proofs.lemmas.List.{get_or_read, get_or-set_same, get_or-set_other, drop_more, drop-append-le, drop_all}
use Rattle.std.proofs.lemmas.List.Elements.{All-head, All-tail}
use Rattle.std.proofs.lemmas.List.Folds.{list_any-append, list_any_at}
use Rattle.tree_log.specs.Tree.{Tree, embedder, nav_of, is_cut, is_shown, is_discarded}
use Rattle.tree_view.specs.Grown.{IsGrown}
use Rattle.tree_view.specs.Ordered.{IsOrdered}
use Rattle.tree_view.proofs.Walk.{discarded_step, gone_above}
use Rattle.indexed_view.specs.Live.{live}
use Rattle.indexed_view.specs.Lists.{is_in}
use Rattle.indexed_view.specs.Marks.{marked, count, if_new, mark_all, new_of, AreMarks, IsUnderWay}
use Rattle.indexed_view.proofs.Members.{in_live, of_live, live_below}

-- HOW MANY ARE MARKED

pub count_new : (marks : List Bool) (n : ℕ) → n < length marks → marked marks n ≡ false → count (set marks n true) ≡ count marks + 1
count_new [] n lt h = absurd (omega arith)
count_new (b ∷ marks) zero lt h = rw h (omega arith)
count_new (b ∷ marks) (suc n) lt h = let more : count (set marks n true) ≡ count marks + 1 = count_new marks n (omega arith) h in ap (λ k. cond b 1 0 + k) more ∙ omega arith

pub count_le : (marks : List Bool) → count marks ≤ length marks
count_le [] = omega arith
count_le (true ∷ marks) = let le = count_le marks in omega (arith, le)
count_le (false ∷ marks) = let le = count_le marks in omega (arith, le)

pub count_lt : (marks : List Bool) (n : ℕ) → n < length marks → marked marks n ≡ false → count marks < length marks
count_lt marks n lt h =
    let more = count_new marks n lt h in
    let le = count_le (set marks n true) in
    let same = length-set marks n true in
    omega (arith, more, le, same)

-- EACH OF A LIST IS MARKED

pub length_all : (ns : List ℕ) (marks : List Bool) → length (mark_all ns marks) ≡ length marks
length_all [] marks = refl
length_all (n ∷ ns) marks = length_all ns (set marks n true) ∙ length-set marks n true

pub marked_set : (marks : List Bool) (m n : ℕ) → m < length marks → marked (set marks m true) n ≡ (eqb m n || marked marks n)
marked_set marks m n lt = elim (eqb_tells m n) [
  | inl e ↦ rw e.0 (ap (λ k. marked (set marks m true) k) (sym e.1) ∙ get_or-set_same marks m true false lt)
  | inr e ↦ rw e.0 (get_or-set_other marks m n true false (λ same. e.1 (sym same)))
]

shuffle : (a b c : Bool) → (a || (b || c)) ≡ ((b || a) || c)
shuffle true true c = refl
shuffle true false c = refl
shuffle false true c = refl
shuffle false false c = refl

pub marked_all : (ns : List ℕ) (marks : List Bool) (n : ℕ) → All (λ m. m < length marks) ns → marked (mark_all ns marks) n ≡ (is_in n ns || marked marks n)
marked_all [] marks n h = refl
marked_all (m ∷ ns) marks n h =
    let rest : All (λ k. k < length (set marks m true)) ns = subst (λ l. All (λ k. k < l) ns) (sym (length-set marks m true)) (All-tail (λ k. k < length marks) m ns h) in
    marked_all ns (set marks m true) n rest
    ∙ ap (λ b. is_in n ns || b) (marked_set marks m n (All-head (λ k. k < length marks) m ns h))
    ∙ shuffle (is_in n ns) (eqb m n) (marked marks n)

if_new_in : (n m : ℕ) (marks : List Bool) → eqb m n ≡ true → marked marks n ≡ false → is_in n (if_new m marks) ≡ true
if_new_in n m marks same fresh = let e : m ≡ n = eqb-true m n same in rw (ap (marked marks) e ∙ fresh, same) refl

-- one that gets its mark then is among the new ones
pub is_new : (ns : List ℕ) (marks : List Bool) (n : ℕ) → All (λ m. m < length marks) ns → is_in n ns ≡ true → marked marks n ≡ false → is_in n (new_of ns marks) ≡ true
is_new [] marks n h it fresh = absurd cc
is_new (m ∷ ns) marks n h it fresh =
    let rest : All (λ k. k < length (set marks m true)) ns = subst (λ l. All (λ k. k < l) ns) (sym (length-set marks m true)) (All-tail (λ k. k < length marks) m ns h) in
    list_any-append (λ k. eqb k n) (if_new m marks) (new_of ns (set marks m true))
    ∙ elim (eqb_tells m n) [
      | inl e ↦ or_left _ _ (if_new_in n m marks e.0 fresh)
      | inr e ↦ or_right _ _ (is_new ns (set marks m true) n rest (sym (ap (λ b. b || is_in n ns) e.0) ∙ it) (marked_set marks m n (All-head (λ k. k < length marks) m ns h) ∙ or_from _ _ e.0 fresh))
    ]

in_if_new : (n m : ℕ) (b : Bool) → is_in n (cond b [] (m ∷ [])) ≡ true → eqb m n ≡ true
in_if_new n m true h = absurd cc
in_if_new n m false h = elim (or_cases (eqb m n) false h) [ inl e ↦ e | inr e ↦ absurd cc ]

pub new_from : (ns : List ℕ) (marks : List Bool) (n : ℕ) → is_in n (new_of ns marks) ≡ true → is_in n ns ≡ true
new_from [] marks n h = absurd cc
new_from (m ∷ ns) marks n h =
    elim (or_cases _ _ (sym (list_any-append (λ k. eqb k n) (if_new m marks) (new_of ns (set marks m true))) ∙ h)) [
      | inl e ↦ or_left _ _ (in_if_new n m (marked marks m) e)
      | inr e ↦ or_right _ _ (new_from ns (set marks m true) n e)
    ]

-- WHAT IS BELOW A CUT

pub same_bool : (a b : Bool) → (a ≡ true → b ≡ true) → (b ≡ true → a ≡ true) → a ≡ b
same_bool true b f g = sym (f refl)
same_bool false true f g = g refl
same_bool false false f g = refl

-- what embeds a discarded one, or is above it
above_gone : (t : Tree) (n : ℕ) (e : Option ℕ) → embedder t n ≡ e → gone_above t e ≡ true → (d : ℕ) → e ≡ Some d → is_discarded t (nav_of t d) ≡ true
above_gone t n e by gone d is = sym (ap (gone_above t) is) ∙ gone

pub child_gone : (t : Tree) → IsOrdered t → (n d : ℕ) → n < t.navs → embedder t n ≡ Some d → is_discarded t (nav_of t d) ≡ true → is_discarded t n ≡ true
child_gone t ordered n d lt by gone = discarded_step t n ordered lt ∙ or_right _ _ (ap (gone_above t) by ∙ gone)

pub cut_gone : (t : Tree) → IsOrdered t → (n : ℕ) → n < t.navs → is_cut t n ≡ true → is_discarded t n ≡ true
cut_gone t ordered n lt cut = discarded_step t n ordered lt ∙ or_left _ _ cut

-- Where each navigable that is cut is so, and each that a discarded one embeds, whatever was discarded is so.
pub spreads : (t : Tree) (P : ℕ → Type 0) → IsOrdered t → ((n : ℕ) → n < t.navs → is_cut t n ≡ true → P n)
    → ((n d : ℕ) → n < t.navs → embedder t n ≡ Some d → nav_of t d < t.navs → is_discarded t (nav_of t d) ≡ true → P (nav_of t d) → P n)
    → (k n : ℕ) → n < k → n < t.navs → is_discarded t n ≡ true → P n
spreads t P ordered cut down zero n under lt gone = absurd (omega arith)
spreads t P ordered cut down (suc k) n under lt gone =
    ⊎_elim (cut n lt) (λ g. by_above (embedder t n) refl g (λ m low there is. spreads t P ordered cut down k m (omega (arith, low)) there is)) (or_cases _ _ (sym (discarded_step t n ordered lt) ∙ gone))
  where
    by_above : (e : Option ℕ) → embedder t n ≡ e → gone_above t e ≡ true → ((m : ℕ) → m < n → m < t.navs → is_discarded t m ≡ true → P m) → P n
    by_above None by g rest = absurd cc
    by_above (Some d) by g rest =
        let low : nav_of t d < n = ordered n d lt by in
        let there : nav_of t d < t.navs = omega (arith, low) in
        down n d lt by there g (rest (nav_of t d) low there g)

-- once nothing waits, the marks are right
pub all_marked : (t : Tree) (marks : List Bool) (queue : List ℕ) (from : ℕ) → IsOrdered t → length queue ≤ from → IsUnderWay t marks queue from → AreMarks t marks
all_marked t marks queue from ordered done way n lt =
    same_bool (marked marks n) (is_discarded t n) (way.sound n lt)
    (spreads t (λ m. marked marks m ≡ true) ordered way.cut (λ m d there by up gone is. down m d there by is) (suc n) n (omega arith) lt)
  where
    down : (m d : ℕ) → m < t.navs → embedder t m ≡ Some d → marked marks (nav_of t d) ≡ true → marked marks m ≡ true
    down m d there by is = ⊎_elim (λ e. e) (λ e. let waits = sym (ap (is_in (nav_of t d)) (drop_all from queue done)) ∙ way.closed m d there by is e in absurd cc) (cases_Bool (marked marks m))

-- THE NEXT ONE THAT WAITS

split_at : (queue : List ℕ) (new : List ℕ) (from n m : ℕ) → from < length queue → get_or queue from 0 ≡ n → is_in m (drop from queue) ≡ true → (m ≡ n) ⊎ (is_in m (drop (from + 1) (queue ++ new)) ≡ true)
split_at queue new from n m lt read h =
    elim (or_cases (eqb (get_or queue from 0) m) (is_in m (drop (from + 1) queue)) (sym (ap (is_in m) (drop_more queue from 0 lt)) ∙ h)) [
      | inl e ↦ inl (sym (eqb-true (get_or queue from 0) m e) ∙ read)
      | inr e ↦ inr (ap (is_in m) (drop-append-le (from + 1) queue new (omega arith)) ∙ list_any-append (λ k. eqb k m) (drop (from + 1) queue) new ∙ or_left _ _ e)
    ]

waits_new : (queue : List ℕ) (new : List ℕ) (from m : ℕ) → from < length queue → is_in m new ≡ true → is_in m (drop (from + 1) (queue ++ new)) ≡ true
waits_new queue new from m lt h = ap (is_in m) (drop-append-le (from + 1) queue new (omega arith)) ∙ list_any-append (λ k. eqb k m) (drop (from + 1) queue) new ∙ or_right _ _ h

pub record IsNext (t : Tree) (marks : List Bool) (queue : List ℕ) (from n : ℕ) : Type 0 where
  pub way : IsUnderWay t marks queue from
  pub grown : IsGrown t
  pub lt : from < length queue
  pub read : get_or queue from 0 ≡ n

pub is_next : (t : Tree) (marks : List Bool) (queue : List ℕ) (from n : ℕ) → IsUnderWay t marks queue from → IsGrown t → from < length queue → n ≡ get_or queue from n → IsNext t marks queue from n
is_next t marks queue from n way grown lt read = record { way = way; grown = grown; lt = lt; read = sym (get_or_read queue from n lt read 0) }

-- where n waited, the children of its active document are marked next
module _ (t : Tree) (marks : List Bool) (queue : List ℕ) (from n : ℕ) (h : IsNext t marks queue from n) where
  abbrev pub children : List ℕ
  children = live t (t.nav n).active

  there : (n < t.navs) × (marked marks n ≡ true)
  there = h.way.queued n (list_any_at (λ k. eqb k n) queue from 0 h.lt (eq-eqb (get_or queue from 0) n h.read))

  pub children_within : All (λ m. m < length marks) children
  children_within = subst (λ l. All (λ m. m < l) children) (sym h.way.len) (live_below t h.grown (t.nav n).active)

  after : (m : ℕ) → marked (mark_all children marks) m ≡ (is_in m children || marked marks m)
  after m = marked_all children marks m children_within

  child_is_gone : (m : ℕ) → is_in m children ≡ true → (m < t.navs) × (is_discarded t m ≡ true)
  child_is_gone m it =
      let child = of_live t h.grown m (t.nav n).active it in
      let own : nav_of t (t.nav n).active ≡ n = h.grown.shows_its_own n there.0 in
      (child.there, child_gone t h.grown.ordered m (t.nav n).active child.there child.by (ap (is_discarded t) own ∙ h.way.sound n there.0 there.1))

  -- one that n embeds is marked then
  child_is_marked : (m d : ℕ) → m < t.navs → embedder t m ≡ Some d → nav_of t d ≡ n → marked (mark_all children marks) m ≡ true
  child_is_marked m d lt by at = ⊎_elim cut (λ e. whole e) (cases_Bool (is_cut t m))
    where
      cut : is_cut t m ≡ true → marked (mark_all children marks) m ≡ true
      cut e = after m ∙ or_right _ _ (h.way.cut m lt e)

      whole : is_cut t m ≡ false → marked (mark_all children marks) m ≡ true
      whole e =
          let parts = or_parts ((t.nav m).dropped || (t.nav m).gone) _ e in
          let stays : (t.nav m).dropped ≡ false = (or_parts (t.nav m).dropped (t.nav m).gone parts.0).0 in
          let shown : is_shown t d ≡ true = sym (ap (λ o. elim o [ None ↦ true | Some x ↦ is_shown t x ]) by) ∙ not-false _ parts.1 in
          let active : (t.nav n).active ≡ d = sym (ap (λ k. (t.nav k).active) at) ∙ eqb-true _ _ shown in
          after m ∙ or_left _ _ (ap (λ x. is_in m (live t x)) active ∙ in_live t h.grown m d lt by stays)

  pub waiting : n < t.navs
  waiting = there.0

  pub next_way : (later : List ℕ) → later ≡ queue ++ new_of children marks → length later ≤ count (mark_all children marks) → IsUnderWay t (mark_all children marks) later (from + 1)
  next_way later is few = record {
    len = length_all children marks ∙ h.way.len;
    sound = λ m lt e. elim (or_cases (is_in m children) (marked marks m) (sym (after m) ∙ e)) [ inl it ↦ (child_is_gone m it).1 | inr old ↦ h.way.sound m lt old ];
    cut = λ m lt e. after m ∙ or_right _ _ (h.way.cut m lt e);
    closed = λ m d lt by up fresh. ⊎_elim (λ old. of_old m d lt by old fresh) (λ new. of_new m d up new) (cases_Bool (marked marks (nav_of t d)));
    queued = λ m it. elim (or_cases _ _ (sym (ap (is_in m) is ∙ list_any-append (λ k. eqb k m) queue (new_of children marks)) ∙ it)) [
      | inl old ↦ let q = h.way.queued m old in (q.0, after m ∙ or_right _ _ q.1)
      | inr new ↦ let c = new_from children marks m new in ((child_is_gone m c).0, after m ∙ or_left _ _ c)
    ];
    few = few;
  }
    where
      of_new : (m d : ℕ) → marked (mark_all children marks) (nav_of t d) ≡ true → marked marks (nav_of t d) ≡ false → is_in (nav_of t d) (drop (from + 1) later) ≡ true
      of_new m d up new =
          elim (or_cases (is_in (nav_of t d) children) (marked marks (nav_of t d)) (sym (after (nav_of t d)) ∙ up)) [
            | inl it ↦ ap (λ q. is_in (nav_of t d) (drop (from + 1) q)) is ∙ waits_new queue (new_of children marks) from (nav_of t d) h.lt (is_new children marks (nav_of t d) children_within it new)
            | inr old ↦ absurd cc
          ]

      of_old : (m d : ℕ) → m < t.navs → embedder t m ≡ Some d → marked marks (nav_of t d) ≡ true → marked (mark_all children marks) m ≡ false → is_in (nav_of t d) (drop (from + 1) later) ≡ true
      of_old m d lt by old fresh =
          let was_fresh : marked marks m ≡ false = (or_parts (is_in m children) (marked marks m) (sym (after m) ∙ fresh)).1 in
          elim (split_at queue (new_of children marks) from n (nav_of t d) h.lt h.read (h.way.closed m d lt by old was_fresh)) [
            | inl at ↦ let is_marked = child_is_marked m d lt by at in absurd cc
            | inr waits ↦ ap (λ q. is_in (nav_of t d) (drop (from + 1) q)) is ∙ waits
          ]

-- AFTER AN ENTRY THAT CUTS

-- what is cut after an entry was cut before, or is among those that the entry cuts
pub record IsCutting (t u : Tree) (marks : List Bool) (cuts : List ℕ) : Type 0 where
  pub before : IsOrdered t
  pub grown : IsGrown u
  pub navs : u.navs ≡ t.navs
  pub embedders : (n : ℕ) → embedder u n ≡ embedder t n
  pub homes : (d : ℕ) → nav_of u d ≡ nav_of t d
  pub len : length marks ≡ t.navs
  pub right : AreMarks t marks
  pub old_cuts : (n : ℕ) → n < t.navs → is_cut t n ≡ true → is_cut u n ≡ true
  pub new_cuts : (n : ℕ) → n < t.navs → is_cut u n ≡ true → (is_cut t n ≡ true) ⊎ (is_in n cuts ≡ true)
  pub gone : (n : ℕ) → is_in n cuts ≡ true → (n < t.navs) × (is_discarded u n ≡ true)
  pub within : All (λ n. n < length marks) cuts

module _ (t u : Tree) (marks : List Bool) (cut : List ℕ) (h : IsCutting t u marks cut) where
  after_cut : (m : ℕ) → marked (mark_all cut marks) m ≡ (is_in m cut || marked marks m)
  after_cut m = marked_all cut marks m h.within

  stays_gone : (n : ℕ) → n < t.navs → is_discarded t n ≡ true → is_discarded u n ≡ true
  stays_gone n lt = spreads t (λ m. is_discarded u m ≡ true) h.before
      (λ m there e. cut_gone u h.grown.ordered m (omega (arith, h.navs)) (h.old_cuts m there e))
      (λ m d there by low gone up. child_gone u h.grown.ordered m d (omega (arith, h.navs)) (h.embedders m ∙ by) (ap (is_discarded u) (h.homes d) ∙ up))
      (suc n) n (omega arith) lt

  pub begun : (queue : List ℕ) → queue ≡ new_of cut marks → length queue ≤ count (mark_all cut marks) → IsUnderWay u (mark_all cut marks) queue 0
  begun queue is few = record {
    len = length_all cut marks ∙ h.len ∙ sym h.navs;
    sound = λ m lt e. elim (or_cases (is_in m cut) (marked marks m) (sym (after_cut m) ∙ e)) [
      | inl it ↦ (h.gone m it).1
      | inr old ↦ let there : m < t.navs = omega (arith, h.navs) in stays_gone m there (sym (h.right m there) ∙ old)
    ];
    cut = λ m lt e. let there : m < t.navs = omega (arith, h.navs) in
        elim (h.new_cuts m there e) [
          | inl old ↦ after_cut m ∙ or_right _ _ (h.right m there ∙ cut_gone t h.before m there old)
          | inr it ↦ after_cut m ∙ or_left _ _ it
        ];
    closed = λ m d lt by up fresh. closed m d (omega (arith, h.navs)) (sym (h.embedders m) ∙ by) up fresh;
    queued = λ m it. let c = new_from cut marks m (sym (ap (is_in m) is) ∙ it) in let low = (h.gone m c).0 in (omega (arith, low, h.navs), after_cut m ∙ or_left _ _ c);
    few = few;
  }
    where
      closed : (m d : ℕ) → m < t.navs → embedder t m ≡ Some d → marked (mark_all cut marks) (nav_of u d) ≡ true → marked (mark_all cut marks) m ≡ false → is_in (nav_of u d) queue ≡ true
      closed m d lt by up fresh =
          let was_fresh : marked marks m ≡ false = (or_parts (is_in m cut) (marked marks m) (sym (after_cut m) ∙ fresh)).1 in
          let low : nav_of t d < m = h.before m d lt by in
          let above : nav_of t d < t.navs = omega (arith, low) in
          let up_old : marked marks (nav_of u d) ≡ false = ap (marked marks) (h.homes d) ∙ false_from_ne_true (marked marks (nav_of t d)) (λ e.
          let gone : marked marks m ≡ true = h.right m lt ∙ child_gone t h.before m d lt by (sym (h.right (nav_of t d) above) ∙ e) in absurd cc) in
          elim (or_cases (is_in (nav_of u d) cut) (marked marks (nav_of u d)) (sym (after_cut (nav_of u d)) ∙ up)) [
            | inl it ↦ ap (is_in (nav_of u d)) is ∙ is_new cut marks (nav_of u d) h.within it up_old
            | inr old ↦ absurd cc
          ]
