-- What each kind of entry leaves as it was.
use Rattle.std.proofs.Common.{◌≡◌, ℕ, ◌+◌, ◌<◌, List, Bool, true, refl, ap, ◌∙◌, inl, inr, arith, eqb, eq-eqb, ne_eqb, Option, ◌||◌}
use Rattle.std.proofs.lemmas.Bool.Decides.{eqb_tells}
use Rattle.std.proofs.lemmas.Bool.{or_right}
use Rattle.tree_log.specs.declared.entry.Entry.{Entry}
use Rattle.tree_log.specs.declared.entry.Load.{Load}
use Rattle.tree_log.specs.declared.entry.What.{What}
use Rattle.tree_log.specs.declared.entry.What.TheVariants.{Open, Frame, Drop, Name, Begin, Commit, Fragment, Opener, Closing, Gone, Post, Fire, Lapse, Lost, Sync, Hidden, Domain}
use Rattle.tree_log.specs.Facts.{Birth, docs_after}
use Rattle.tree_log.specs.Admits.{admits}
use Rattle.tree_log.specs.Tree.{Tree, tree_after, embedder, nav_of}
use Rattle.tree_log.proofs.Admitted.{born_stays}
use Rattle.tree_view.specs.NewRows.{entry}
use Rattle.indexed_view.specs.Index.{HasHistory, is_quiet, is_beginning}
use Rattle.indexed_view.proofs.Carried.{IsUncut}
use Rattle.indexed_view.proofs.Upkeep.{IsOneOn, IsSameOfChildren}

-- what the index reads of a tree
pub record Said : Type 0 where
  pub navs : ℕ
  pub docs : ℕ
  pub embedders : ℕ → Option ℕ
  pub homes : ℕ → ℕ
  pub active : ℕ → ℕ
  pub dropped : ℕ → Bool
  pub gone : ℕ → Bool
  pub names : ℕ → List ℕ
  pub frames : ℕ → List ℕ
  pub been_active : ℕ → Bool

said : Tree → Said
said t = record {
  navs = t.navs;
  docs = t.docs;
  embedders = embedder t;
  homes = nav_of t;
  active = λ n. (t.nav n).active;
  dropped = λ n. (t.nav n).dropped;
  gone = λ n. (t.nav n).gone;
  names = λ n. (t.nav n).name;
  frames = t.frames;
  been_active = λ d. (t.doc d).been_active;
}

quiet_says : (t : Tree) (by actor : Option ℕ) (w : What) → is_quiet w ≡ true → said (tree_after t (entry by actor w)) ≡ said t
unfolding tree_after said
quiet_says t by actor (Fragment _ _ _) h = refl
quiet_says t by actor (Opener _ _) h = refl
quiet_says t by actor (Post _ _ _ _ _) h = refl
quiet_says t by actor (Fire _ _) h = refl
quiet_says t by actor (Lapse _ _ _) h = refl
quiet_says t by actor (Closing _) h = refl
quiet_says t by actor (Lost _) h = refl
quiet_says t by actor Sync h = refl
quiet_says t by actor Hidden h = refl
quiet_says t by actor (Domain _ _) h = refl
quiet_says t by actor (Open _ _ _ _ _ _ _ _ _ _) h = absurd cc
quiet_says t by actor (Frame _ _ _ _ _ _ _) h = absurd cc
quiet_says t by actor (Drop _) h = absurd cc
quiet_says t by actor (Name _ _) h = absurd cc
quiet_says t by actor (Begin _ _) h = absurd cc
quiet_says t by actor (Commit _ _ _) h = absurd cc
quiet_says t by actor (Gone _) h = absurd cc

said_on : (t u : Tree) → HasHistory t → said u ≡ said t → IsOneOn t u
unfolding said
said_on t u h same = record {
  navs = ap (λ (s : Said). s.navs) same;
  docs = let e : u.docs ≡ t.docs = ap (λ (s : Said). s.docs) same in omega (arith, e);
  embedders = λ n. ap (λ (s : Said). s.embedders n) same;
  homes = λ d lt. ap (λ (s : Said). s.homes d) same;
  frames = λ d. ap (λ (s : Said). s.frames d) same;
  dropped_later = λ n le. ap (λ (s : Said). s.dropped n) same;
  gone_later = λ n le. ap (λ (s : Said). s.gone n) same;
  seen = λ d e. ap (λ (s : Said). s.been_active d) same ∙ e;
  shown = λ n lt. ap (λ (s : Said). s.been_active (s.active n)) same ∙ h.shown n lt;
}

said_uncut : (t u : Tree) → said u ≡ said t → IsUncut t u
unfolding said
said_uncut t u same = record {
  active = λ n lt. ap (λ (s : Said). s.active n) same;
  dropped = λ n lt. ap (λ (s : Said). s.dropped n) same;
  gone = λ n lt. ap (λ (s : Said). s.gone n) same;
}

said_children : (t u : Tree) → said u ≡ said t → IsSameOfChildren t u
unfolding said
said_children t u same = record {
  frames = λ d. ap (λ (s : Said). s.frames d) same;
  dropped = λ n. ap (λ (s : Said). s.dropped n) same;
  names = λ n lt. ap (λ (s : Said). s.names n) same;
}

-- an entry that makes nothing, names nothing and discards nothing
pub record IsCalm (t u : Tree) : Type 0 where
  pub on : IsOneOn t u
  pub uncut : IsUncut t u
  pub children : IsSameOfChildren t u

pub quiet_calm : (t : Tree) (e : Entry) → HasHistory t → is_quiet e.what ≡ true → IsCalm t (tree_after t e)
quiet_calm t e h quiet =
    let same = quiet_says t e.by e.actor e.what quiet in
    record { on = said_on t (tree_after t e) h same; uncut = said_uncut t (tree_after t e) same; children = said_children t (tree_after t e) same }

pub quiet_docs : (t : Tree) (e : Entry) → is_quiet e.what ≡ true → (tree_after t e).docs ≡ t.docs
unfolding said
quiet_docs t e quiet = ap (λ (s : Said). s.docs) (quiet_says t e.by e.actor e.what quiet)

-- A LOAD BEGINS

pub begin_docs : (t : Tree) (e : Entry) → is_beginning e.what ≡ true → (tree_after t e).docs ≡ t.docs + 1
unfolding tree_after
begin_docs t e kind = by e.what kind
  where
    by : (w : What) → is_beginning w ≡ true → docs_after w t.docs ≡ t.docs + 1
    by (Begin _ _) h = refl
    by (Open _ _ _ _ _ _ _ _ _ _) h = absurd cc
    by (Frame _ _ _ _ _ _ _) h = absurd cc
    by (Drop _) h = absurd cc
    by (Name _ _) h = absurd cc
    by (Commit _ _ _) h = absurd cc
    by (Gone _) h = absurd cc
    by (Fragment _ _ _) h = absurd cc
    by (Opener _ _) h = absurd cc
    by (Post _ _ _ _ _) h = absurd cc
    by (Fire _ _) h = absurd cc
    by (Lapse _ _ _) h = absurd cc
    by (Closing _) h = absurd cc
    by (Lost _) h = absurd cc
    by Sync h = absurd cc
    by Hidden h = absurd cc
    by (Domain _ _) h = absurd cc

begins : (t : Tree) (by actor : Option ℕ) (i : ℕ) (load : Load) → HasHistory t → admits t (entry by actor (Begin i load)) ≡ true → IsCalm t (tree_after t (entry by actor (Begin i load)))
unfolding tree_after
begins t by actor i load h admitted = record {
  on = record {
    navs = refl;
    docs = omega arith;
    embedders = λ n. refl;
    homes = λ d lt. ap (λ (b : Birth). b.nav) (born_stays t (entry by actor (Begin i load)) d admitted lt);
    frames = λ d. refl;
    dropped_later = λ n le. refl;
    gone_later = λ n le. refl;
    seen = λ d e. e;
    shown = h.shown;
  };
  uncut = record { active = λ n lt. refl; dropped = λ n lt. refl; gone = λ n lt. refl };
  children = record { frames = λ d. refl; dropped = λ n. refl; names = λ n lt. refl };
}

pub begin_calm : (t : Tree) (e : Entry) → HasHistory t → admits t e ≡ true → is_beginning e.what ≡ true → IsCalm t (tree_after t e)
begin_calm t e h admitted kind = by e.what kind admitted
  where
    by : (w : What) → is_beginning w ≡ true → admits t (entry e.by e.actor w) ≡ true → IsCalm t (tree_after t (entry e.by e.actor w))
    by (Begin i load) k a = begins t e.by e.actor i load h a
    by (Open _ _ _ _ _ _ _ _ _ _) k a = absurd cc
    by (Frame _ _ _ _ _ _ _) k a = absurd cc
    by (Drop _) k a = absurd cc
    by (Name _ _) k a = absurd cc
    by (Commit _ _ _) k a = absurd cc
    by (Gone _) k a = absurd cc
    by (Fragment _ _ _) k a = absurd cc
    by (Opener _ _) k a = absurd cc
    by (Post _ _ _ _ _) k a = absurd cc
    by (Fire _ _) k a = absurd cc
    by (Lapse _ _ _) k a = absurd cc
    by (Closing _) k a = absurd cc
    by (Lost _) k a = absurd cc
    by Sync k a = absurd cc
    by Hidden k a = absurd cc
    by (Domain _ _) k a = absurd cc

-- DROPPED, CLOSED, NAMED

pub drop_on : (t : Tree) (by actor : Option ℕ) (i : ℕ) → HasHistory t → i < t.navs → IsOneOn t (tree_after t (entry by actor (Drop i)))
unfolding tree_after
drop_on t by actor i h there = record {
  navs = refl;
  docs = omega arith;
  embedders = λ n. refl;
  homes = λ d lt. refl;
  frames = λ d. refl;
  dropped_later = λ n le. ap (λ b. b || (t.nav n).dropped) (ne_eqb i n (λ e. absurd (omega arith)));
  gone_later = λ n le. refl;
  seen = λ d e. e;
  shown = h.shown;
}

pub gone_on : (t : Tree) (by actor : Option ℕ) (i : ℕ) → HasHistory t → i < t.navs → IsOneOn t (tree_after t (entry by actor (Gone i)))
unfolding tree_after
gone_on t by actor i h there = record {
  navs = refl;
  docs = omega arith;
  embedders = λ n. refl;
  homes = λ d lt. refl;
  frames = λ d. refl;
  dropped_later = λ n le. refl;
  gone_later = λ n le. ap (λ b. b || (t.nav n).gone) (ne_eqb i n (λ e. absurd (omega arith)));
  seen = λ d e. e;
  shown = h.shown;
}

pub gone_children : (t : Tree) (by actor : Option ℕ) (i : ℕ) → IsSameOfChildren t (tree_after t (entry by actor (Gone i)))
unfolding tree_after
gone_children t by actor i = record { frames = λ d. refl; dropped = λ n. refl; names = λ n lt. refl }

pub name_on : (t : Tree) (by actor : Option ℕ) (i : ℕ) (name : List ℕ) → HasHistory t → IsOneOn t (tree_after t (entry by actor (Name i name)))
unfolding tree_after
name_on t by actor i name h = record {
  navs = refl;
  docs = omega arith;
  embedders = λ n. refl;
  homes = λ d lt. refl;
  frames = λ d. refl;
  dropped_later = λ n le. refl;
  gone_later = λ n le. refl;
  seen = λ d e. e;
  shown = h.shown;
}

pub name_uncut : (t : Tree) (by actor : Option ℕ) (i : ℕ) (name : List ℕ) → IsUncut t (tree_after t (entry by actor (Name i name)))
unfolding tree_after
name_uncut t by actor i name = record { active = λ n lt. refl; dropped = λ n lt. refl; gone = λ n lt. refl }

-- ANOTHER DOCUMENT IS SHOWN

pub commit_on : (t : Tree) (by actor : Option ℕ) (i d b : ℕ) → HasHistory t → IsOneOn t (tree_after t (entry by actor (Commit i d b)))
unfolding tree_after
commit_on t by actor i d b h = record {
  navs = refl;
  docs = omega arith;
  embedders = λ n. refl;
  homes = λ x lt. refl;
  frames = λ x. refl;
  dropped_later = λ n le. refl;
  gone_later = λ n le. refl;
  seen = λ x e. or_right (eqb d x) (t.doc x).been_active e;
  shown = λ n lt. elim (eqb_tells i n) [
    | inl e ↦ rw e.0 (ap (λ c. c || (t.doc d).been_active) (eq-eqb d d refl))
    | inr e ↦ rw e.0 (or_right _ _ (h.shown n lt))
  ];
}

pub commit_children : (t : Tree) (by actor : Option ℕ) (i d b : ℕ) → IsSameOfChildren t (tree_after t (entry by actor (Commit i d b)))
unfolding tree_after
commit_children t by actor i d b = record { frames = λ x. refl; dropped = λ n. refl; names = λ n lt. refl }
