-- Rows that were those of a log are those of the log with one more entry, once it was taken in.
use Rattle.std.proofs.Common.{◌≡◌, ℕ, ◌≤◌, List, [], ◌∷◌, length, Option, Some, None, true, false, refl, sym, ap, ◌∙◌, arith, inl, inr}
use Rattle.std.specs.Prelude.{◌==◌, unwrap_or}
use Rattle.std.specs.Option.{option_or}
use Rattle.std.proofs.lemmas.Bool.Decides.{eqb_tells}
use Rattle.tree_log.specs.declared.entry.Entry.{Entry}
use Rattle.tree_log.specs.declared.entry.What.{What}
use Rattle.tree_log.specs.declared.entry.What.TheVariants.{Open, Frame, Commit}
use Rattle.tree_log.specs.Facts.{at, Making, no_making, making}
use Rattle.tree_log.specs.Tree.{Tree, tree_of, embedder}
use Rattle.tree_log.specs.Admits.{admits, admits_what, AreAdmitted}
use Rattle.tree_log.proofs.Admitted.{what_admitted}
use Rattle.tree_log.proofs.Unmade.{bounded}
use Rattle.agent_laws.proofs.Logs.Entries.{entry, open_next, frame_next, commit_there}
use Rattle.agent_laws.proofs.Groups.Well.{as_top, as_frame}
use Rattle.document_ends.specs.declared.ends.Ends.{Ends}
use Rattle.document_ends.specs.Ended.{cut_by, ended_by, embedded_at, embeds, Stands, IsTaken, IsKept, IsFed}
use Rattle.document_ends.proofs.Walks.{or_none}

pub entry_stands : (t : Tree) (by actor : Option ℕ) (w : What) → admits_what t by actor w ≡ true → Stands t w
entry_stands t by actor (Commit nav doc begin) h = (commit_there t by actor nav doc begin h).0
entry_stands t by actor w h = tt

pub embedder_start : (n : ℕ) → embedder (tree_of []) n ≡ None
unfolding tree_of
embedder_start n = refl

-- what embeds a navigable stays, and one that is new has what the entry says
embedder_said : (t : Tree) (by actor : Option ℕ) (w : What) → admits t (entry by actor w) ≡ true → ((n : ℕ) → t.navs ≤ n → (t.nav n).made ≡ no_making) → (n : ℕ)
    → (unwrap_or (making n actor w) (t.nav n).made).embedder ≡ option_or (embedder t n) (embeds n actor w)
embedder_said t by actor (Open nav doc group home origin name opener flags navigator load) h unmade n =
    let next = open_next t by actor nav doc group home origin name opener flags navigator load (what_admitted t (entry by actor (Open nav doc group home origin name opener flags navigator load)) h) in
    elim (eqb_tells nav n) as (λ _. (unwrap_or (at n nav (as_top actor group flags navigator)) (t.nav n).made).embedder ≡ option_or (embedder t n) None) [
      | inl p ↦ rw (p.0) (sym (ap (λ (m : Making). option_or m.embedder None) (unmade n (let is : nav ≡ t.navs = next.new_nav in let here : nav ≡ n = p.1 in omega arith))))
      | inr p ↦ rw (p.0) (sym (or_none (embedder t n)))
    ]
embedder_said t by actor (Frame nav doc home origin name flags load) h unmade n =
    let next = frame_next t by actor nav doc home origin name flags load (what_admitted t (entry by actor (Frame nav doc home origin name flags load)) h) in
    elim (eqb_tells nav n) as (λ _. (unwrap_or (at n nav (as_frame actor flags)) (t.nav n).made).embedder ≡ option_or (embedder t n) (embedded_at n nav actor)) [
      | inl p ↦
          let none : embedder t n ≡ None = ap (λ (m : Making). m.embedder) (unmade n (let is : nav ≡ t.navs = next.new_nav in let here : nav ≡ n = p.1 in omega arith)) in
          rw (p.0) (sym (ap (λ (o : Option ℕ). option_or o (embedded_at n nav actor)) none ∙ here_at n nav p.0 actor))
      | inr p ↦ rw (p.0) (sym (ap (option_or (embedder t n)) (elsewhere n nav p.0 actor) ∙ or_none (embedder t n)))
    ]
  where
    here_at : (n nav : ℕ) → (nav == n) ≡ true → (actor : Option ℕ) → embedded_at n nav actor ≡ actor
    here_at n nav is None = refl
    here_at n nav is (Some d) = rw is refl

    elsewhere : (n nav : ℕ) → (nav == n) ≡ false → (actor : Option ℕ) → embedded_at n nav actor ≡ None
    elsewhere n nav is None = refl
    elsewhere n nav is (Some d) = rw is refl
embedder_said t by actor w h unmade n = sym (or_none (embedder t n))

embedder_next : (e : Entry) (log : List Entry) → AreAdmitted (e ∷ log) → (n : ℕ) → embedder (tree_of (e ∷ log)) n ≡ option_or (embedder (tree_of log) n) (embeds n e.actor e.what)
unfolding tree_of
embedder_next e log all n = embedder_said (tree_of log) e.by e.actor e.what all.0 (bounded log all.1).makings n

pub fed_next : (e : Entry) (log : List Entry) (old new : Ends) → AreAdmitted (e ∷ log) → IsFed old log → IsTaken (tree_of log) (length log) e.actor e.what old new → IsFed new (e ∷ log)
fed_next e log old new all fed taken = record {
  cuts = λ n. taken.cuts n ∙ ap (λ (o : Option ℕ). option_or o (cut_by (length log) n e.what)) (fed.cuts n);
  documents = λ d. taken.documents d ∙ ap (λ (o : Option ℕ). option_or o (ended_by (tree_of log) (length log) d e.what)) (fed.documents d);
  embedders = λ n. taken.embedders n ∙ ap (λ (o : Option ℕ). option_or o (embeds n e.actor e.what)) (fed.embedders n) ∙ sym (embedder_next e log all n);
}

pub fed_same : (log : List Entry) (old new : Ends) → IsFed old log → IsKept old new → IsFed new log
fed_same log old new fed kept = record {
  cuts = λ n. kept.cuts n ∙ fed.cuts n;
  documents = λ d. kept.documents d ∙ fed.documents d;
  embedders = λ n. kept.embedders n ∙ fed.embedders n;
}
