-- A tree that hears of more entries.
use Rattle.std.specs.Prelude.{IsTrue}
use Rattle.std.proofs.Common.{◌≡◌, ℕ, ◌+◌, ◌<◌, ◌≤◌, List, [], ◌∷◌, ◌++◌, length, reverse, drop, get_or, refl, sym, ap, subst, ◌∙◌, arith, append_assoc}
use Rattle.std.proofs.lemmas.List.{reverse-append, drop_more}
use Rattle.tree_log.specs.declared.entry.Entry.{Entry}
use Rattle.tree_log.specs.Tree.{Tree, tree_of, tree_after, tree_of_step}
use Rattle.tree_log.specs.Urls.{url_of, urls_after, url_of_step}
use Rattle.tree_log.specs.Admits.{admits, AreAdmitted}
use Rattle.tree_log.proofs.Admitted.{docs_grow, docs_at_step, navs_grow, navs_at_step}
use Rattle.session_player.specs.Growing.{grow, grow_urls, AllFollow}

-- entries, the oldest first, in front of a log
front : (e : Entry) (es base : List Entry) → reverse (e ∷ es) ++ base ≡ reverse es ++ e ∷ base
front e es base = ap (λ xs. xs ++ base) (reverse-append (e ∷ []) es) ∙ append_assoc (reverse es) (e ∷ []) base

pub grown : (news base : List Entry) → grow (tree_of base) news ≡ tree_of (reverse news ++ base)
grown [] base = refl
grown (e ∷ es) base = ap (λ t. grow t es) (sym (tree_of_step e base)) ∙ grown es (e ∷ base) ∙ ap tree_of (sym (front e es base))

pub grown_urls : (news base : List Entry) → grow_urls (url_of base) news ≡ url_of (reverse news ++ base)
grown_urls [] base = refl
grown_urls (e ∷ es) base = ap (λ u. grow_urls u es) (sym (url_of_step e base)) ∙ grown_urls es (e ∷ base) ∙ ap url_of (sym (front e es base))

older_admitted : (more base : List Entry) → AreAdmitted (more ++ base) → AreAdmitted base
older_admitted [] base h = h
older_admitted (e ∷ more) base h = older_admitted more base h.1

-- in an admitted log each entry can follow those before it
pub all_follow : (news base : List Entry) → AreAdmitted (reverse news ++ base) → AllFollow (tree_of base) news
all_follow [] base h = tt
all_follow (e ∷ es) base h =
    let moved : AreAdmitted (reverse es ++ e ∷ base) = subst AreAdmitted (front e es base) h in
    let last : AreAdmitted (e ∷ base) = older_admitted (reverse es) (e ∷ base) moved in
    (last.0, subst (λ (t : Tree). AllFollow t es) (tree_of_step e base) (all_follow es (e ∷ base) moved))

-- documents stay
pub docs_later : (t : Tree) (e : Entry) → t.docs ≤ (tree_after t e).docs
docs_later t e = subst (λ n. t.docs ≤ n) (sym (docs_at_step t e)) (docs_grow e.what t.docs)

-- navigables stay
pub navs_later : (t : Tree) (e : Entry) → t.navs ≤ (tree_after t e).navs
navs_later t e = subst (λ n. t.navs ≤ n) (sym (navs_at_step t e)) (navs_grow e.what t.navs)

-- ONE ENTRY MORE IS HEARD

rest_from : (news : List Entry) (i : ℕ) (e : Entry) → i < length news → e ≡ get_or news i e → drop i news ≡ e ∷ drop (i + 1) news
rest_from news i e lt is = drop_more news i e lt ∙ ap (λ x. x ∷ drop (i + 1) news) (sym is)

module _ (news : List Entry) (i : ℕ) (e : Entry) (lt : i < length news) (is : e ≡ get_or news i e) where
  pub heard_tree : (t0 t u : Tree) → u ≡ tree_after t e → grow t (drop i news) ≡ grow t0 news → grow u (drop (i + 1) news) ≡ grow t0 news
  heard_tree t0 t u step so_far = ap (λ v. grow v (drop (i + 1) news)) step ∙ sym (ap (grow t) (rest_from news i e lt is)) ∙ so_far

  pub heard_urls : (u0 u v : ℕ → List ℕ) → v ≡ urls_after u e → grow_urls u (drop i news) ≡ grow_urls u0 news → grow_urls v (drop (i + 1) news) ≡ grow_urls u0 news
  heard_urls u0 u v step so_far = ap (λ w. grow_urls w (drop (i + 1) news)) step ∙ sym (ap (grow_urls u) (rest_from news i e lt is)) ∙ so_far

  pub heard_all : (t0 t u : Tree) → u ≡ tree_after t e → (AllFollow t0 news → AllFollow t (drop i news)) → AllFollow t0 news → AllFollow u (drop (i + 1) news)
  heard_all t0 t u step so_far all =
      let here : AllFollow t (e ∷ drop (i + 1) news) = subst (AllFollow t) (rest_from news i e lt is) (so_far all) in
      subst (λ (v : Tree). AllFollow v (drop (i + 1) news)) (sym step) here.1

  pub heard_next : (t0 t : Tree) → (AllFollow t0 news → AllFollow t (drop i news)) → AllFollow t0 news → IsTrue (admits t e)
  heard_next t0 t so_far all =
      let here : AllFollow t (e ∷ drop (i + 1) news) = subst (AllFollow t) (rest_from news i e lt is) (so_far all) in
      here.0

  pub heard_docs : (t0 t u : Tree) → u ≡ tree_after t e → t0.docs ≤ t.docs → t0.docs ≤ u.docs
  heard_docs t0 t u step so_far =
      let more : t.docs ≤ u.docs = subst (λ (v : Tree). t.docs ≤ v.docs) (sym step) (docs_later t e) in
      omega arith

  pub heard_navs : (t0 t u : Tree) → u ≡ tree_after t e → t0.navs ≤ t.navs → t0.navs ≤ u.navs
  heard_navs t0 t u step so_far =
      let more : t.navs ≤ u.navs = subst (λ (v : Tree). t.navs ≤ v.navs) (sym step) (navs_later t e) in
      omega arith
