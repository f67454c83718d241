-- The tree doesn't depend on what is blanked.
use Rattle.std.proofs.Common.{◌≡◌, ℕ, suc, List, [], ◌∷◌, length, codes, Option, Some, None, Bool, true, false, refl, ap, ◌∙◌, sym, not, if◌then◌else◌, inl, inr}
use Rattle.std.proofs.lemmas.Bool.Decides.{eqb_tells}
use Rattle.origin_core.specs.Origin.{blank_text}
use Rattle.tree_log.specs.Facts.{at}
use Rattle.tree_log.specs.Urls.{url_of, gives_url}
use Rattle.tree_log.specs.declared.entry.Entry.{Entry}
use Rattle.tree_log.specs.declared.entry.What.{What}
use Rattle.tree_log.specs.declared.entry.What.TheVariants.{Open, Frame, Begin, Fragment, Post, Fire, Lapse, Hidden}
use Rattle.tree_log.specs.Tree.{Tree, tree_of, tree_after, tree_of_step}
use Rattle.tree_log.specs.Blanking.{blank, blanked, hidden}

hidden_or : (t : Tree) (by actor : Option ℕ) (what w : What) (b : Bool) → tree_after t hidden ≡ tree_after t (record { by = by; actor = actor; what = w }) →
    tree_after t (if b then hidden else record { by = by; actor = actor; what = w }) ≡ tree_after t (record { by = by; actor = actor; what = w })
hidden_or t by actor what w true e = e
hidden_or t by actor what w false e = refl

after-blank_what : (kept : ℕ → Bool) (t : Tree) (by actor : Option ℕ) (w : What) →
    tree_after t (blank kept (record { by = by; actor = actor; what = w })) ≡ tree_after t (record { by = by; actor = actor; what = w })
unfolding tree_after
after-blank_what kept t by actor (Open nav doc group home origin name opener flags navigator None) = refl
after-blank_what kept t by actor (Open nav doc group home origin name opener flags navigator (Some load)) = refl
after-blank_what kept t by actor (Frame nav doc home origin name flags None) = refl
after-blank_what kept t by actor (Frame nav doc home origin name flags (Some load)) = refl
after-blank_what kept t by actor (Begin nav load) = refl
after-blank_what kept t by actor (Post to from origin target body) = hidden_or t by actor (Post to from origin target body) (Post to from origin target body) (not (kept to)) refl
after-blank_what kept t by actor (Fire doc post) = hidden_or t by actor (Fire doc post) (Fire doc post) (not (kept doc)) refl
after-blank_what kept t by actor (Lapse doc post cause) = hidden_or t by actor (Lapse doc post cause) (Lapse doc post cause) (not (kept doc)) refl
after-blank_what kept t by actor w = refl

pub after-blank : (kept : ℕ → Bool) (t : Tree) (e : Entry) → tree_after t (blank kept e) ≡ tree_after t e
after-blank kept t e = after-blank_what kept t e.by e.actor e.what

-- the tree of a blanked log is that of the log, whoever is kept
pub tree_of-blanked : (kept : ℕ → Bool) (log : List Entry) → tree_of (blanked kept log) ≡ tree_of log
tree_of-blanked kept [] = refl
tree_of-blanked kept (e ∷ older) =
    tree_of_step (blank kept e) (blanked kept older)
    ∙ ap (λ t. tree_after t (blank kept e)) (tree_of-blanked kept older)
    ∙ after-blank kept (tree_of older) e
    ∙ sym (tree_of_step e older)

at_kept : {A : Type 0} (kept : ℕ → Bool) (d n : ℕ) (x y : A) → kept d ≡ true → at d n (if kept n then x else y) ≡ at d n x
at_kept {A} kept d n x y h =
    elim (eqb_tells n d) as (λ _. at d n (if kept n then x else y) ≡ at d n x) [
      | inl p ↦ let k : kept n ≡ true = ap kept p.1 ∙ h in rw k
      | inr p ↦ rw (p.0)
    ]

-- what an entry says, where one that is hidden says the same
pub said : {A : Type 0} (f : What → A) (b : Bool) (by actor : Option ℕ) (w : What) → f Hidden ≡ f w → f (if b then hidden else record { by = by; actor = actor; what = w }).what ≡ f w
said f true by actor w e = e
said f false by actor w e = refl

gives_url-blank : (kept : ℕ → Bool) (d : ℕ) → kept d ≡ true → (by actor : Option ℕ) (w : What) → gives_url d (blank kept (record { by = by; actor = actor; what = w })).what ≡ gives_url d w
gives_url-blank kept d h by actor (Open _ _ _ _ _ _ _ _ _ None) = refl
gives_url-blank kept d h by actor (Open _ _ _ _ _ _ _ _ _ (Some load)) = at_kept kept d load.doc load.url (blank_text load.origin) h
gives_url-blank kept d h by actor (Frame _ _ _ _ _ _ None) = refl
gives_url-blank kept d h by actor (Frame _ _ _ _ _ _ (Some load)) = at_kept kept d load.doc load.url (blank_text load.origin) h
gives_url-blank kept d h by actor (Begin _ load) = at_kept kept d load.doc load.url (blank_text load.origin) h
gives_url-blank kept d h by actor (Fragment _ doc url) = at_kept kept d doc url (codes "about:blank") h
gives_url-blank kept d h by actor (Post to from origin target body) = said (gives_url d) (not (kept to)) by actor (Post to from origin target body) refl
gives_url-blank kept d h by actor (Fire doc post) = said (gives_url d) (not (kept doc)) by actor (Fire doc post) refl
gives_url-blank kept d h by actor (Lapse doc post cause) = said (gives_url d) (not (kept doc)) by actor (Lapse doc post cause) refl
gives_url-blank kept d h by actor w = refl

-- the URL of a kept document is told
pub url_of-blanked : (kept : ℕ → Bool) (log : List Entry) (d : ℕ) → kept d ≡ true → url_of (blanked kept log) d ≡ url_of log d
unfolding url_of
url_of-blanked kept [] d h = refl
url_of-blanked kept (e ∷ older) d h = rw (gives_url-blank kept d h e.by e.actor e.what, url_of-blanked kept older d h)

pub length-blanked : (kept : ℕ → Bool) (log : List Entry) → length (blanked kept log) ≡ length log
length-blanked kept [] = refl
length-blanked kept (e ∷ older) = ap suc (length-blanked kept older)

pub ruleset blank_laws = (tree_of-blanked, url_of-blanked)
