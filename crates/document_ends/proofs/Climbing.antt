-- A walk up the tree to the first place at which a document ended.
use Rattle.std.proofs.Common.{◌≡◌, ℕ, ◌<◌, List, Option, Some, None, sym, ap, ◌∙◌}
use Rattle.tree_log.specs.declared.entry.Entry.{Entry}
use Rattle.tree_log.specs.Tree.{tree_of, embedder, nav_of}
use Rattle.tree_log.specs.Admits.{AreAdmitted}
use Rattle.agent_laws.proofs.Groups.Well.{admitted_well}
use Rattle.document_ends.specs.Ended.{sooner, first_cut, own_end, nav_end}
use Rattle.document_ends.proofs.Places.{sooner_none, sooner_assoc}
use Rattle.document_ends.proofs.Walks.{nav_end_by, nav_step}

module _ (log : List Entry) (all : AreAdmitted log) (n : ℕ) (lt : n < (tree_of log).navs) (first cut found last : Option ℕ) (cut_is : cut ≡ first_cut log n) (found_is : found ≡ sooner first cut)
    (told : sooner first (nav_end log n) ≡ last) where
  with_cut : found ≡ sooner first (first_cut log n)
  with_cut = found_is ∙ ap (sooner first) cut_is

  top_end : embedder (tree_of log) n ≡ None → nav_end log n ≡ first_cut log n
  top_end top = nav_step log n (admitted_well log all) lt ∙ ap (nav_end_by log n) top ∙ sooner_none (sooner (first_cut log n) None) ∙ sooner_none (first_cut log n)

  -- it ends at a top-level
  pub stops_at_top : embedder (tree_of log) n ≡ None → found ≡ last
  stops_at_top top = with_cut ∙ ap (sooner first) (sym (top_end top)) ∙ told

  below_end : (p : ℕ) → embedder (tree_of log) n ≡ Some p → nav_end log n ≡ sooner (sooner (first_cut log n) (own_end log p)) (nav_end log (nav_of (tree_of log) p))
  below_end p by = nav_step log n (admitted_well log all) lt ∙ ap (nav_end_by log n) by

  regrouped : (cuts own above : Option ℕ) → sooner (sooner (sooner first cuts) own) above ≡ sooner first (sooner (sooner cuts own) above)
  regrouped cuts own above = ap (λ (o : Option ℕ). sooner o above) (sooner_assoc first cuts own) ∙ sooner_assoc first (sooner cuts own) above

  -- and goes on above the document p
  pub goes_up : (p m : ℕ) (own next : Option ℕ) → embedder (tree_of log) n ≡ Some p → m ≡ nav_of (tree_of log) p → own ≡ own_end log p → next ≡ sooner found own → sooner next (nav_end log m) ≡ last
  goes_up p m own next by m_is own_is next_is =
      ap (λ (o : Option ℕ). sooner o (nav_end log m)) (next_is ∙ ap (sooner found) own_is ∙ ap (λ (o : Option ℕ). sooner o (own_end log p)) with_cut)
      ∙ ap (λ (k : ℕ). sooner (sooner (sooner first (first_cut log n)) (own_end log p)) (nav_end log k)) m_is
      ∙ regrouped (first_cut log n) (own_end log p) (nav_end log (nav_of (tree_of log) p)) ∙ ap (sooner first) (sym (below_end p by)) ∙ told
