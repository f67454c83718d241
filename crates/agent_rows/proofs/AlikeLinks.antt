-- Links of a document that was replaced differ to everyone, unless they are equal: they load nothing whose home would hide their URL.
use Rattle.std.proofs.Common.{◌≡◌, ℕ, List, Bool, true, false, codes, refl, ap, sym, inl, inr}
use Rattle.std.specs.Prelude.{bytes_eq}
use Rattle.std.proofs.lemmas.Bool.{false≢true}
use Rattle.url.proofs.OnLiterals.{url_on_literals}
use Rattle.tree_log.specs.declared.entry.Entry.{Entry}
use Rattle.tree_log.specs.Homes.{home_for}
use Rattle.tree_log.specs.Tree.{tree_of, is_active, is_discarded, chain, children_of, top_level_of, ancestors, group_of}
use Rattle.tree_log.specs.Urls.{url_of}
use Rattle.agent_terms.specs.declared.request.Request.{Request}
use Rattle.agent_terms.specs.declared.request.Request.TheVariants as ask
use Rattle.coordinator_rules.specs.Navigation.{choice, walk_from, familiar_through, may_navigate}
use Rattle.coordinator_rules.specs.Decision.{Rules, decide, exchange, asked_decision, end_of, is_in_fragment}
use Rattle.twin_laws.specs.Alike.{HasUrlElsewhere, Differs, Message, Gone_to, Linked, Opened, Framed}
use Rattle.agent_rows.specs.Logs.{framed, rules}
use Rattle.agent_rows.specs.AlikeLinks.{link, page_p, page_q, AreAlikeTo}

-- d2 was replaced by d3: its links are alike where they are equal
pub equal_links : (r : ℕ) (url : List ℕ) → AreAlikeTo r (link 2 url) (link 2 url)
equal_links r url = record { same_kind = refl; alike = inl refl }

-- LINKS THAT DIFFER

is_link : Request → Bool
is_link (ask.Link _ _ _ _ _) = true
is_link _ = false

-- links that differ load something
loads_elsewhere : (some : Rules) (log : List Entry) (r x : ℕ) (q other : Request) → Differs some log r x q other → is_link q ≡ true → HasUrlElsewhere some log r x q
unfolding is_link
loads_elsewhere some log r x q other (Linked _ _ _ _ _ _ h) e = h.1
loads_elsewhere some log r x q other (Message _ _ _ _ _ _ _) e = absurd (false≢true e)
loads_elsewhere some log r x q other (Gone_to _ _ _ _ _ _) e = absurd (false≢true e)
loads_elsewhere some log r x q other (Opened _ _ _ _ _ _ _) e = absurd (false≢true e)
loads_elsewhere some log r x q other (Framed _ _ _ _ _ _ _) e = absurd (false≢true e)

-- those of d2 don't
loads_nothing : (r : ℕ) (url : List ℕ) → HasUrlElsewhere rules framed r 0 (link 2 url) → ⊥
unfolding exchange asked_decision end_of tree_of is_active is_discarded chain
loads_nothing r url h = h

goes_to_p : Request → Bool
goes_to_p (ask.Link _ url _ _ _) = bytes_eq url page_p
goes_to_p _ = false

pub other_links : (r : ℕ) → AreAlikeTo r (link 2 page_p) (link 2 page_q) → ⊥
unfolding is_link goes_to_p
other_links r h = elim (h.alike) as (λ _. ⊥) [
  | inl same ↦ false≢true (sym (ap goes_to_p same))
  | inr differ ↦ loads_nothing r page_p (loads_elsewhere rules framed r 0 (link 2 page_p) (link 2 page_q) differ.2 refl)
]

-- LINKS OF A DOCUMENT THAT IS THERE

-- those of d1 load a document that is homed at renderer 1, so renderer 2 can't tell them apart
pub hidden_links : AreAlikeTo 2 (link 1 page_p) (link 1 page_q)
unfolding exchange asked_decision decide end_of is_in_fragment choice walk_from familiar_through may_navigate home_for tree_of url_of is_active is_discarded chain children_of top_level_of ancestors group_of url_on_literals
hidden_links = record {
  same_kind = refl;
  alike = inr (refl, refl, Linked 1 page_p page_q (codes "f") false false (refl, refl), Linked 1 page_q page_p (codes "f") false false (refl, refl));
}
