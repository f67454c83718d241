-- A document that was active and isn't any more never is again, and never acts.
use Rattle.std.proofs.Common.{◌≡◌, ◌≢◌, ℕ, ◌<◌, ◌^◌, List, [], ◌∷◌, ◌++◌, length, Option, Some, None, Bool, true, false, refl, ap, sym, subst, ◌∙◌, inl, inr}
use Rattle.std.specs.Prelude.{◌⊎◌, ◌&&◌, not, nat_lt}
use Rattle.std.proofs.lemmas.Bool.{false≢true}
use Rattle.tree_log.specs.declared.entry.Entry.{Entry}
use Rattle.tree_log.specs.declared.entry.What.{What}
use Rattle.tree_log.specs.declared.entry.What.TheVariants.{Open, Frame, Drop, Name, Begin, Commit, Fragment, Opener, Post, Closing, Sync, Domain}
use Rattle.tree_log.specs.Tree.{Tree, tree_of, tree_after, tree_of_step, nav_of, is_shown, is_discarded, is_active}
use Rattle.tree_log.specs.Admits.{admits_what, admits, AreAdmitted}
use Rattle.tree_log.proofs.Admitted.{both, what_admitted}
use Rattle.agent_terms.specs.declared.session.Session.{Session}
use Rattle.coordinator_rules.specs.NextTask.{task_entry}
use Rattle.single_agent.specs.LegalLog.{IsLegalLog}
use Rattle.agent_laws.specs.Wellness.{IsWell}
use Rattle.log_laws.specs.Messages.{IsActorOfNone}
use Rattle.agent_laws.proofs.Logs.Entries.{at_self, commit_there}
use Rattle.agent_laws.proofs.Groups.Well.{nav_stays, admitted_well}
use Rattle.agent_laws.proofs.Logs.Discarded.{IsSeated, been_later, shown_active, seated_of, shown_other, active_after, replaced_later, discarded_later}
use Rattle.agent_laws.proofs.Logs.Admitted.{legal_admitted}

-- WHAT IS NO LONGER ACTIVE

-- the document had been active, and is so no more
record IsPast (t : Tree) (d : ℕ) : Type 0 where
  been : (t.doc d).been_active ≡ true
  inactive : is_active t d ≡ false

inactive_if : (t : Tree) (d : ℕ) (b : Bool) → is_shown t d ≡ b → (b && not (is_discarded t (nav_of t d))) ≡ false → (is_shown t d ≡ false) ⊎ (is_discarded t (nav_of t d) ≡ true)
inactive_if t d true is h = inr (discarded (is_discarded t (nav_of t d)) h)
  where
    discarded : (b : Bool) → not b ≡ false → b ≡ true
    discarded true k = refl
    discarded false k = absurd cc
inactive_if t d false is h = inl is

not_shown_inactive : (t : Tree) (d : ℕ) → is_shown t d ≡ false → is_active t d ≡ false
unfolding is_active
not_shown_inactive t d h = ap (λ (b : Bool). b && not (is_discarded t (nav_of t d))) h

discarded_inactive : (t : Tree) (d n : ℕ) → nav_of t d ≡ n → is_discarded t n ≡ true → is_active t d ≡ false
unfolding is_active
discarded_inactive t d n is h = ap (λ (x : ℕ). is_shown t d && not (is_discarded t x)) is ∙ ap (λ (b : Bool). is_shown t d && not b) h ∙ never (is_shown t d)
  where
    never : (b : Bool) → (b && false) ≡ false
    never true = refl
    never false = refl

inactive_cases : (t : Tree) (d : ℕ) → is_active t d ≡ false → (is_shown t d ≡ false) ⊎ (is_discarded t (nav_of t d) ≡ true)
unfolding is_active
inactive_cases t d h = inactive_if t d (is_shown t d) refl h

past_later : (t : Tree) (e : Entry) → admits t e ≡ true → IsWell t → IsSeated t → (d : ℕ) → IsPast t d → IsPast (tree_after t e) d
past_later t e h well seated d p =
    let there : d < t.docs = well.shown d p.been in
    record {
      been = been_later t e d p.been;
      inactive = elim (inactive_cases t d p.inactive) as (λ _. is_active (tree_after t e) d ≡ false) [
        | inl out ↦ not_shown_inactive (tree_after t e) d (replaced_later t e h well d (record { been = p.been; not_shown = out })).not_shown
        | inr out ↦ discarded_inactive (tree_after t e) d (nav_of t d) (nav_stays t e d h there) (discarded_later t e h well seated (nav_of t d) (well.below d there) out)
      ];
    }

past_at_step : (e : Entry) (older : List Entry) (d : ℕ) → AreAdmitted (e ∷ older) → IsPast (tree_of older) d → IsPast (tree_of (e ∷ older)) d
past_at_step e older d all p = subst (λ (t : Tree). IsPast t d) (sym (tree_of_step e older)) (past_later (tree_of older) e all.0 (admitted_well older all.1) (seated_of older all.1) d p)

past_grown : (newer older : List Entry) (d : ℕ) → AreAdmitted (newer ++ older) → IsPast (tree_of older) d → IsPast (tree_of (newer ++ older)) d
past_grown [] older d all p = p
past_grown (e ∷ newer) older d all p = past_at_step e (newer ++ older) d all (past_grown newer older d all.1 p)

-- WHO ACTS

first : (a b : Bool) → (a && b) ≡ true → a ≡ true
first a b h = (both a b h).0

-- an acting document is active
actor_active : (t : Tree) (by : Option ℕ) (d : ℕ) (w : What) → admits_what t by (Some d) w ≡ true → is_active t d ≡ true
actor_active t (Some r) d (Open _ _ _ _ _ _ _ _ _ _) h = (both (nat_lt d t.docs) (is_active t d) (first _ _ (first _ _ (first _ _ (first _ _ (first _ _ (first _ _ h))))))).1
actor_active t (Some r) d (Frame _ _ _ _ _ _ _) h = (both (nat_lt d t.docs) (is_active t d) (first _ _ (first _ _ (first _ _ h)))).1
actor_active t (Some r) d (Drop _) h = (both (nat_lt d t.docs) (is_active t d) (first _ _ h)).1
actor_active t (Some r) d (Name _ _) h = (both (nat_lt d t.docs) (is_active t d) (first _ _ h)).1
actor_active t (Some r) d (Begin _ _) h = (both (nat_lt d t.docs) (is_active t d) (first _ _ (first _ _ h))).1
actor_active t (Some r) d (Fragment _ _ _) h = (both (nat_lt d t.docs) (is_active t d) (first _ _ (first _ _ h))).1
actor_active t (Some r) d (Opener _ _) h = (both (nat_lt d t.docs) (is_active t d) (first _ _ (first _ _ h))).1
actor_active t (Some r) d (Post _ _ _ _ _) h = (both (nat_lt d t.docs) (is_active t d) (first _ _ (first _ _ h))).1
actor_active t (Some r) d (Domain _ _) h = (both (nat_lt d t.docs) (is_active t d) (first _ _ h)).1
actor_active t (Some r) d (Closing _) h = (both (nat_lt d t.docs) (is_active t d) (first _ _ h)).1
actor_active t (Some r) d Sync h = (both (nat_lt d t.docs) (is_active t d) h).1
actor_active t None d Sync h = absurd (false≢true h)
actor_active t by d w h = absurd (false≢true h)

no_actor : (t : Tree) (e : Entry) (d : ℕ) → admits t e ≡ true → is_active t d ≡ false → e.actor ≢ Some d
no_actor t e d h inactive is =
    let active : is_active t d ≡ true = actor_active t e.by d e.what (subst (λ (a : Option ℕ). admits_what t e.by a e.what ≡ true) is (what_admitted t e h)) in
    false≢true (sym inactive ∙ active)

acts_no_more : (newer older : List Entry) (d : ℕ) → AreAdmitted (newer ++ older) → IsPast (tree_of older) d → IsActorOfNone d newer
acts_no_more [] older d all p = tt
acts_no_more (e ∷ newer) older d all p = (no_actor (tree_of (newer ++ older)) e d all.0 (past_grown newer older d all.1 p).inactive, acts_no_more newer older d all.1 p)

-- THE LAWS

pub never_acts : (newer older : List Entry) (d : ℕ) → AreAdmitted (newer ++ older) → ((tree_of older).doc d).been_active ≡ true → is_active (tree_of older) d ≡ false → IsActorOfNone d newer
never_acts newer older d all been inactive = acts_no_more newer older d all (record { been = been; inactive = inactive })

pub never_active : (newer older : List Entry) (d : ℕ) → AreAdmitted (newer ++ older) → ((tree_of older).doc d).been_active ≡ true → is_active (tree_of older) d ≡ false → is_active (tree_of (newer ++ older)) d ≡ false
never_active newer older d all been inactive = (past_grown newer older d all (record { been = been; inactive = inactive })).inactive

-- a document that a commit replaces had been active, and isn't any more
replaced_past : (r : ℕ) (older : List Entry) (nav doc begin d : ℕ) → AreAdmitted (task_entry r (Commit nav doc begin) ∷ older) → is_active (tree_of older) d ≡ true → nav_of (tree_of older) d ≡ nav
    → IsPast (tree_of (task_entry r (Commit nav doc begin) ∷ older)) d
replaced_past r older nav doc begin d all active is =
    let t : Tree = tree_of older in
    let e : Entry = task_entry r (Commit nav doc begin) in
    let well = admitted_well older all.1 in
    let what = what_admitted t e all.0 in
    let nav_there = (commit_there t (Some r) None nav doc begin what).0 in
    let shown : (t.nav nav).active ≡ d = subst (λ (n : ℕ). (t.nav n).active ≡ d) is (shown_active t d active) in
    let there : d < t.docs = subst (λ (x : ℕ). x < t.docs) shown (well.active nav nav_there) in
    let been : (t.doc d).been_active ≡ true = subst (λ (x : ℕ). (t.doc x).been_active ≡ true) shown ((seated_of older all.1).actives nav nav_there) in
    let never = (both _ (not (t.doc doc).been_active) what).1 in
    let other : doc ≡ d → ⊥ = λ same. never_been (t.doc d).been_active been (subst (λ (x : ℕ). not (t.doc x).been_active ≡ true) same never) in
    let out = shown_other t (tree_after t e) d nav (nav_stays t e d all.0 there ∙ is) (λ now. other (sym (active_after t e nav ∙ at_self nav doc (t.nav nav).active) ∙ now)) in
    subst (λ (s : Tree). IsPast s d) (sym (tree_of_step e older)) (record { been = been_later t e d been; inactive = not_shown_inactive (tree_after t e) d out })
  where
    never_been : (b : Bool) → b ≡ true → not b ≡ true → ⊥
    never_been true h k = false≢true k
    never_been false h k = false≢true h

pub older_admitted : (newer older : List Entry) → AreAdmitted (newer ++ older) → AreAdmitted older
older_admitted [] older all = all
older_admitted (e ∷ newer) older all = older_admitted newer older all.1

replaced_acts_no_more : (newer older : List Entry) (r nav doc begin d : ℕ) → AreAdmitted (newer ++ task_entry r (Commit nav doc begin) ∷ older) → is_active (tree_of older) d ≡ true → nav_of (tree_of older) d ≡ nav → IsActorOfNone d newer
replaced_acts_no_more newer older r nav doc begin d all active is =
    acts_no_more newer (task_entry r (Commit nav doc begin) ∷ older) d all (replaced_past r older nav doc begin d (older_admitted newer (task_entry r (Commit nav doc begin) ∷ older) all) active is)

-- what a replaced document did doesn't follow the entry that replaced it
pub replaced_never_acts : (s : Session) (log newer older : List Entry) (r nav doc begin d : ℕ) → IsLegalLog s log → length log < 2 ^ 30 → log ≡ newer ++ task_entry r (Commit nav doc begin) ∷ older
    → is_active (tree_of older) d ≡ true → nav_of (tree_of older) d ≡ nav → IsActorOfNone d newer
replaced_never_acts s log newer older r nav doc begin d legal short is active of_nav =
    replaced_acts_no_more newer older r nav doc begin d (subst AreAdmitted is (legal_admitted s log legal short)) active of_nav
