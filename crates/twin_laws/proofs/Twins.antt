-- Twin logs have one tree, and what alike requests add to them keeps them twin logs.
use Rattle.std.proofs.Common.{◌≡◌, ℕ, suc, ◌+◌, List, [], ◌∷◌, ◌++◌, length, Option, Some, None, Bool, true, false, refl, ap, ◌∙◌, sym, if◌then◌else◌, subst}
use Rattle.std.specs.Prelude.{◌==◌}
use Rattle.origin_core.specs.declared.origin.Origin.{Origin}
use Rattle.origin_core.specs.Flags.{has_origin}
use Rattle.origin_core.specs.Origin.{loaded_origin}
use Rattle.origin_core.specs.Site.{site_of}
use Rattle.tree_log.specs.declared.entry.Entry.{Entry}
use Rattle.tree_log.specs.declared.entry.Load.{Load}
use Rattle.tree_log.specs.declared.entry.What.{What}
use Rattle.tree_log.specs.declared.entry.What.TheVariants.{Open, Frame, Begin, Fragment}
use Rattle.tree_log.specs.Facts.{Birth}
use Rattle.tree_log.specs.Tree.{Tree, tree_of, tree_after, tree_of_step, home_of, origin_of}
use Rattle.tree_log.specs.Homes.{home_for}
use Rattle.tree_log.specs.Blanking.{blank, is_homed, blank_load}
use Rattle.agent_terms.specs.declared.request.ReplyOutcome.{ReplyOutcome}
use Rattle.coordinator_rules.specs.Decision.{Rules, Decision, end_of, by, load_for}
use Rattle.twin_laws.specs.Twins.{bare, bare_load, IsTwin, TwinLogs}
use Rattle.coordinator_rules.specs.Told.{told_log}
use Rattle.agent_laws.proofs.Logs.Entries.{at_self, at_next}
use Rattle.twin_laws.specs.Alike.{url_home_in, IsElsewhere, HasSameOrigin}

-- ONE TREE

after-bare_what : (t : Tree) (by actor : Option ℕ) (w : What) → tree_after t (bare (record { by = by; actor = actor; what = w })) ≡ tree_after t (record { by = by; actor = actor; what = w })
unfolding tree_after
after-bare_what t by actor (Open nav doc group home origin name opener flags navigator None) = refl
after-bare_what t by actor (Open nav doc group home origin name opener flags navigator (Some load)) = refl
after-bare_what t by actor (Frame nav doc home origin name flags None) = refl
after-bare_what t by actor (Frame nav doc home origin name flags (Some load)) = refl
after-bare_what t by actor w = refl

after-bare : (t : Tree) (e : Entry) → tree_after t (bare e) ≡ tree_after t e
after-bare t e = after-bare_what t e.by e.actor e.what

-- twin logs have one tree
pub tree_of-twin : (r : ℕ) (left right : List Entry) → TwinLogs r left right → tree_of left ≡ tree_of right
tree_of-twin r [] [] h = refl
tree_of-twin r (a ∷ left) (b ∷ right) h =
    tree_of_step a left
    ∙ sym (after-bare (tree_of left) a)
    ∙ ap (λ t. tree_after t (bare a)) (tree_of-twin r left right h.1)
    ∙ ap (tree_after (tree_of right)) h.0.same_bare
    ∙ after-bare (tree_of right) b
    ∙ sym (tree_of_step b right)
tree_of-twin r [] (b ∷ right) h = absurd h
tree_of-twin r (a ∷ left) [] h = absurd h

-- the renderer is told the same
pub told-twin : (r : ℕ) (left right : List Entry) → TwinLogs r left right → told_log r left ≡ told_log r right
told-twin r [] [] h = refl
told-twin r (a ∷ left) (b ∷ right) h =
    let e : tree_of (a ∷ left) ≡ tree_of (b ∷ right) = tree_of-twin r (a ∷ left) (b ∷ right) h in
    let k : blank (is_homed (tree_of (a ∷ left)) r) a ≡ blank (is_homed (tree_of (b ∷ right)) r) b = h.0.same_blank ∙ ap (λ t. blank (is_homed t r) b) e in
    ap (λ x. x ∷ told_log r left) k ∙ ap (λ xs. blank (is_homed (tree_of (b ∷ right)) r) b ∷ xs) (told-twin r left right h.1)
told-twin r [] (b ∷ right) h = absurd h
told-twin r (a ∷ left) [] h = absurd h

pub length-twin : (r : ℕ) (left right : List Entry) → TwinLogs r left right → length left ≡ length right
length-twin r [] [] h = refl
length-twin r (a ∷ left) (b ∷ right) h = ap suc (length-twin r left right h.1)
length-twin r [] (b ∷ right) h = absurd h
length-twin r (a ∷ left) [] h = absurd h

pub end_of-twin : (r : ℕ) (left right : List Entry) (d : ℕ) → TwinLogs r left right → end_of left d ≡ end_of right d
unfolding end_of
end_of-twin r [] [] d h = refl
end_of-twin r (a ∷ left) (b ∷ right) d h = rw (tree_of-twin r left right h.1, length-twin r left right h.1, end_of-twin r left right d h.1) refl
end_of-twin r [] (b ∷ right) d h = absurd h
end_of-twin r (a ∷ left) [] d h = absurd h

-- AGREEMENT

-- what is decided on twin logs: one outcome, and twin logs after it
pub record Agree (r : ℕ) (left : List Entry) (a b : Decision) : Type 0 where
  pub outcome : a.outcome ≡ b.outcome
  pub logs : (right : List Entry) → TwinLogs r left right → TwinLogs r (a.entries ++ left) (b.entries ++ right)

pub same_twin : (kept : ℕ → Bool) (e : Entry) → IsTwin kept e e
same_twin kept e = record { same_bare = refl; same_blank = refl }

-- a pair of twins below the same entries
grown : (r : ℕ) (front : List Entry) (a b : Entry) (left right : List Entry) → IsTwin (is_homed (tree_of (a ∷ left)) r) a b → TwinLogs r left right
    → TwinLogs r ((front ++ a ∷ []) ++ left) ((front ++ b ∷ []) ++ right)
grown r [] a b left right h t = (h, t)
grown r (e ∷ front) a b left right h t = (same_twin (is_homed (tree_of (e ∷ ((front ++ a ∷ []) ++ left))) r) e, grown r front a b left right h t)

same_grown : (r : ℕ) (front : List Entry) (left right : List Entry) → TwinLogs r left right → TwinLogs r (front ++ left) (front ++ right)
same_grown r [] left right t = t
same_grown r (e ∷ front) left right t = (same_twin (is_homed (tree_of (e ∷ (front ++ left))) r) e, same_grown r front left right t)

pub agree_same : (r : ℕ) (left : List Entry) (a : Decision) → Agree r left a a
agree_same r left a = record { outcome = refl; logs = same_grown r a.entries left }

-- a pair of entries of one asker that are twins
abbrev pub TwinWhat : List Entry → ℕ → ℕ → ℕ → What → What → Type 0
TwinWhat left r x asker v w = IsTwin (is_homed (tree_of (by x asker v ∷ left)) r) (by x asker v) (by x asker w)

pub agree_at : (r : ℕ) (left front : List Entry) (x asker : ℕ) (v w : What) (o : ReplyOutcome) → TwinWhat left r x asker v w
    → Agree r left (record { entries = front ++ by x asker v ∷ []; outcome = o }) (record { entries = front ++ by x asker w ∷ []; outcome = o })
agree_at r left front x asker v w o h = record { outcome = refl; logs = λ right t. grown r front (by x asker v) (by x asker w) left right h t }

-- a branch that only one side of the test takes to a URL
pub agree_if : (r : ℕ) (left : List Entry) (t : Tree) (test : Bool) (a b other : Decision) → (IsElsewhere r (url_home_in t a.entries) → Agree r left a b)
    → IsElsewhere r (url_home_in t (if test then a else other).entries) → Agree r left (if test then a else other) (if test then b else other)
agree_if r left t true a b other f h = f h
agree_if r left t false a b other f h = agree_same r left other

-- LOADS

-- loads of URLs of one origin are the same but for the URL
record LoadTwin (kept : ℕ → Bool) (a b : Load) : Type 0 where
  pub same_bare : bare_load a ≡ bare_load b
  pub same_blank : blank_load kept a ≡ blank_load kept b

load_twin_at : (kept : ℕ → Bool) (doc : ℕ) (o o' : Origin) (h : Origin → ℕ) (url other : List ℕ) → kept doc ≡ false → o ≡ o'
    → LoadTwin kept (record { doc = doc; home = h o; origin = o; url = url }) (record { doc = doc; home = h o'; origin = o'; url = other })
load_twin_at kept doc o o' h url other k e =
    subst (λ (z : Origin). LoadTwin kept (record { doc = doc; home = h o; origin = o; url = url }) (record { doc = doc; home = h z; origin = z; url = other })) e
    (record { same_bare = refl; same_blank = rw k refl })

loaded_origin_same : (opaque : Bool) (doc : ℕ) (asker : Origin) (url other : List ℕ) → loaded_origin false 0 asker url ≡ loaded_origin false 0 asker other → loaded_origin opaque doc asker url ≡ loaded_origin opaque doc asker other
loaded_origin_same true doc asker url other e = refl
loaded_origin_same false doc asker url other e = e

load_twin : (kept : ℕ → Bool) (rules : Rules) (t : Tree) (group flags doc asker : ℕ) (url other : List ℕ) → HasSameOrigin t asker url other → kept doc ≡ false
    → LoadTwin kept (load_for rules t group flags doc asker url) (load_for rules t group flags doc asker other)
load_twin kept rules t group flags doc asker url other e k =
    load_twin_at kept doc (loaded_origin (has_origin flags) doc (origin_of t asker) url) (loaded_origin (has_origin flags) doc (origin_of t asker) other)
    (λ o. home_for rules.renderers rules.suffixes t group (site_of o rules.suffixes)) url other k (loaded_origin_same (has_origin flags) doc (origin_of t asker) url other e)

-- where a new document is homed
pub home_of_begin : (t : Tree) (x asker n : ℕ) (load : Load) → home_of (tree_after t (by x asker (Begin n load))) load.doc ≡ load.home
unfolding tree_after
home_of_begin t x asker n load = ap (λ (b : Birth). b.home) (at_self load.doc (record { nav = n; origin = load.origin; home = load.home; loaded = true }) (t.doc load.doc).born)

pub fragment_home : (t : Tree) (r x asker n doc d : ℕ) (url : List ℕ) → (home_of t d == r) ≡ false → is_homed (tree_after t (by x asker (Fragment n doc url))) r d ≡ false
unfolding tree_after
fragment_home t r x asker n doc d url h = h

pub home_of_open : (t : Tree) (x asker nav group home : ℕ) (origin : Origin) (name : List ℕ) (opener : Option ℕ) (flags : ℕ) (navigator : Option ℕ) (load : Load) → load.doc ≡ t.docs + 1
    → home_of (tree_after t (by x asker (Open nav t.docs group home origin name opener flags navigator (Some load)))) load.doc ≡ load.home
unfolding tree_after
home_of_open t x asker nav group home origin name opener flags navigator load e =
    rw e (ap (λ (b : Birth). b.home) (at_next t.docs (record { nav = nav; origin = origin; home = home; loaded = false }) (record { nav = nav; origin = load.origin; home = load.home; loaded = true }) (t.doc (t.docs + 1)).born))

pub home_of_frame : (t : Tree) (x asker nav home : ℕ) (origin : Origin) (name : List ℕ) (flags : ℕ) (load : Load) → load.doc ≡ t.docs + 1
    → home_of (tree_after t (by x asker (Frame nav t.docs home origin name flags (Some load)))) load.doc ≡ load.home
unfolding tree_after
home_of_frame t x asker nav home origin name flags load e =
    rw e (ap (λ (b : Birth). b.home) (at_next t.docs (record { nav = nav; origin = origin; home = home; loaded = false }) (record { nav = nav; origin = load.origin; home = load.home; loaded = true }) (t.doc (t.docs + 1)).born))

-- an entry that differs only in the URL of its load, for a document that isn't homed at r
pub loading_twin : (rules : Rules) (left : List Entry) (r x asker group flags doc : ℕ) (url other : List ℕ) (f : Load → What)
    → ((l : Load) → bare (by x asker (f l)) ≡ by x asker (f (bare_load l))) → ((kept : ℕ → Bool) (l : Load) → blank kept (by x asker (f l)) ≡ by x asker (f (blank_load kept l)))
    → home_of (tree_after (tree_of left) (by x asker (f (load_for rules (tree_of left) group flags doc asker url)))) doc ≡ (load_for rules (tree_of left) group flags doc asker url).home
    → HasSameOrigin (tree_of left) asker url other → ((load_for rules (tree_of left) group flags doc asker url).home == r) ≡ false
    → TwinWhat left r x asker (f (load_for rules (tree_of left) group flags doc asker url)) (f (load_for rules (tree_of left) group flags doc asker other))
loading_twin rules left r x asker group flags doc url other f bares blanks home same away =
    let t : Tree = tree_of left in
    let a : Load = load_for rules t group flags doc asker url in
    let b : Load = load_for rules t group flags doc asker other in
    let kept : ℕ → Bool = is_homed (tree_of (by x asker (f a) ∷ left)) r in
    let k : kept doc ≡ false = rw (tree_of_step (by x asker (f a)) left, home) away in
    let w : LoadTwin kept a b = load_twin kept rules t group flags doc asker url other same k in
    record {
      same_bare = bares a ∙ ap (λ (z : Load). by x asker (f z)) w.same_bare ∙ sym (bares b);
      same_blank = blanks kept a ∙ ap (λ (z : Load). by x asker (f z)) w.same_blank ∙ sym (blanks kept b);
    }
