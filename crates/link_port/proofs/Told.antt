-- What a renderer is told of a log: a log itself, with the same tree.
use Rattle.std.proofs.Common.{◌≡◌, ℕ, suc, List, [], ◌∷◌, ◌++◌, length, Option, Some, None, Bool, true, false, refl, sym, ap, subst, ◌∙◌, not, if◌then◌else◌}
use Rattle.std.specs.Prelude.{IsTrue, ◌&&◌, nat_lt}
use Rattle.coordinator_rules.specs.Told.{told_log}
use Rattle.tree_log.specs.declared.entry.Entry.{Entry}
use Rattle.tree_log.specs.declared.entry.What.{What}
use Rattle.tree_log.specs.declared.entry.What.TheVariants.{Open, Frame, Begin, Fragment, Post, Fire, Lapse}
use Rattle.tree_log.specs.Admits.{admits, admits_what, AreAdmitted}
use Rattle.tree_log.specs.Blanking.{blank, hidden, is_homed}
use Rattle.tree_log.specs.Tree.{Tree, tree_of, tree_after, tree_of_step}
use Rattle.tree_log.proofs.BlankLaws.{after-blank}

-- the tree is that of the log
pub told_tree : (r : ℕ) (log : List Entry) → tree_of (told_log r log) ≡ tree_of log
told_tree r [] = refl
told_tree r (e ∷ older) =
    let kept : ℕ → Bool = is_homed (tree_of (e ∷ older)) r in
    tree_of_step (blank kept e) (told_log r older)
    ∙ ap (λ t. tree_after t (blank kept e)) (told_tree r older)
    ∙ after-blank kept (tree_of older) e
    ∙ sym (tree_of_step e older)

pub told_length : (r : ℕ) (log : List Entry) → length (told_log r log) ≡ length log
told_length r [] = refl
told_length r (e ∷ older) = ap suc (told_length r older)

-- what a longer log tells begins with what the log tells
pub told_front : (r : ℕ) (es log : List Entry) → (front : List Entry) × (told_log r (es ++ log) ≡ front ++ told_log r log)
told_front r [] log = ([], refl)
told_front r (e ∷ es) log =
    let rest = told_front r es log in
    let first : Entry = blank (is_homed (tree_of (e ∷ es ++ log)) r) e in
    (first ∷ rest.0, ap (λ (xs : List Entry). first ∷ xs) rest.1)

-- IT IS ADMITTED

admits_entry : Tree → Entry → Bool
admits_entry t e = admits_what t e.by e.actor e.what

hidden_or : (t : Tree) (by actor : Option ℕ) (w : What) (b : Bool) → admits_what t by actor w ≡ true → admits_entry t (if b then hidden else record { by = by; actor = actor; what = w }) ≡ true
unfolding admits_entry
hidden_or t by actor w true h = refl
hidden_or t by actor w false h = h

blank_admits : (k : ℕ → Bool) (t : Tree) (by actor : Option ℕ) (w : What) → admits_what t by actor w ≡ true → admits_entry t (blank k (record { by = by; actor = actor; what = w })) ≡ true
unfolding admits_entry
blank_admits k t by actor (Open nav doc group home origin name opener flags navigator None) h = h
blank_admits k t by actor (Open nav doc group home origin name opener flags navigator (Some load)) h = h
blank_admits k t by actor (Frame nav doc home origin name flags None) h = h
blank_admits k t by actor (Frame nav doc home origin name flags (Some load)) h = h
blank_admits k t by actor (Begin nav load) h = h
blank_admits k t by actor (Fragment nav doc url) h = h
blank_admits k t by actor (Post to from origin target body) h = hidden_or t by actor (Post to from origin target body) (not (k to)) h
blank_admits k t by actor (Fire doc post) h = hidden_or t by actor (Fire doc post) (not (k doc)) h
blank_admits k t by actor (Lapse doc post cause) h = hidden_or t by actor (Lapse doc post cause) (not (k doc)) h
blank_admits k t by actor w h = h

two : (a b c : Bool) → (a && b) ≡ true → (b ≡ true → c ≡ true) → (a && c) ≡ true
two true b c h later = later h
two false b c h later = h

blank_admitted : (k : ℕ → Bool) (t : Tree) (e : Entry) → admits t e ≡ true → admits t (blank k e) ≡ true
unfolding admits admits_entry
blank_admitted k t e h = two (nat_lt t.len 4294967295) (admits_what t e.by e.actor e.what) (admits_entry t (blank k e)) h (blank_admits k t e.by e.actor e.what)

-- what is told of an admitted log is admitted
pub told_admitted : (r : ℕ) (log : List Entry) → AreAdmitted log → AreAdmitted (told_log r log)
told_admitted r [] all = tt
told_admitted r (e ∷ older) all =
    let kept : ℕ → Bool = is_homed (tree_of (e ∷ older)) r in
    (subst (λ (t : Tree). IsTrue (admits t (blank kept e))) (sym (told_tree r older)) (blank_admitted kept (tree_of older) e all.0), told_admitted r older all.1)
