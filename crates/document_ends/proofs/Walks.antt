-- The first places of a log: of what stands above a navigable, and at which it was cut.
use Rattle.std.proofs.Common.{◌≡◌, ℕ, ◌<◌, List, [], ◌∷◌, length, Option, Some, None, Bool, true, false, refl, sym, ap, ◌∙◌}
use Rattle.std.specs.Prelude.{◌==◌, ◌||◌, is_some, if◌then◌else◌}
use Rattle.std.specs.Option.{option_or}
use Rattle.tree_log.specs.declared.entry.Entry.{Entry}
use Rattle.tree_log.specs.declared.entry.What.{What}
use Rattle.tree_log.specs.declared.entry.What.TheVariants.{Drop, Gone}
use Rattle.tree_log.specs.Facts.{drops, says_gone}
use Rattle.tree_log.specs.Tree.{Tree, tree_of, embedder, nav_of}
use Rattle.tree_view.specs.Ordered.{IsOrdered}
use Rattle.tree_view.proofs.Walk.{chain_above, chain_step}
use Rattle.agent_laws.specs.Wellness.{IsWell}
use Rattle.document_ends.specs.Ended.{sooner, soonest, cut_by, ended_by, first_cut, own_end, end_if_any, cut_end, nav_end}
use Rattle.document_ends.proofs.Places.{AtMost, most_or, now_most}
use Rattle.document_ends.proofs.Steps.{cut_now, ended_most}

-- WALKS

pub ordered : (t : Tree) → IsWell t → IsOrdered t
ordered t well n d lt is = (well.up n d is).1

abbrev pub above_end : List Entry → Option ℕ → Option ℕ
above_end log None = None
above_end log (Some d) = nav_end log (nav_of (tree_of log) d)

-- what it is where o embeds n
abbrev pub nav_end_by : List Entry → ℕ → Option ℕ → Option ℕ
nav_end_by log n o = sooner (sooner (first_cut log n) (end_if_any log o)) (above_end log o)

over_end : (log : List Entry) (o : Option ℕ) → soonest (cut_end log) (chain_above (tree_of log) o) ≡ above_end log o
over_end log None = refl
over_end log (Some d) = refl

pub nav_step : (log : List Entry) (n : ℕ) → IsWell (tree_of log) → n < (tree_of log).navs → nav_end log n ≡ nav_end_by log n (embedder (tree_of log) n)
nav_step log n well lt =
    ap (soonest (cut_end log)) (chain_step (tree_of log) n (ordered (tree_of log) well) lt) ∙ ap (sooner (cut_end log n)) (over_end log (embedder (tree_of log) n))

-- PLACES OF A LOG

pub cut_most : (log : List Entry) (n : ℕ) → AtMost (length log) (first_cut log n)
cut_most [] n = tt
cut_most (e ∷ older) n =
    most_or (length older) (first_cut older n) (cut_by (length older) n e.what) (cut_most older n) (now_most (length older) (cut_by (length older) n e.what) (cut_now (length older) n e.what))

pub own_most : (log : List Entry) (d : ℕ) → AtMost (length log) (own_end log d)
own_most [] d = tt
own_most (e ∷ older) d =
    most_or (length older) (own_end older d) (ended_by (tree_of older) (length older) d e.what) (own_most older d) (ended_most (tree_of older) e.what (length older) d)

-- CUTS

some_more : (o : Option ℕ) (l : ℕ) (c : Bool) → is_some (option_or o (if c then Some l else None)) ≡ is_some o || c
some_more None l true = refl
some_more None l false = refl
some_more (Some a) l c = refl

or_four : (a b c : Bool) → ((c || a) || b) ≡ ((a || b) || c)
or_four true true true = refl
or_four true true false = refl
or_four true false true = refl
or_four true false false = refl
or_four false true true = refl
or_four false true false = refl
or_four false false true = refl
or_four false false false = refl

or_last : (a b c : Bool) → (a || (c || b)) ≡ ((a || b) || c)
or_last true true true = refl
or_last true true false = refl
or_last true false true = refl
or_last true false false = refl
or_last false true true = refl
or_last false true false = refl
or_last false false true = refl
or_last false false false = refl

pub or_none : (o : Option ℕ) → option_or o None ≡ o
or_none None = refl
or_none (Some a) = refl

cut_said : (w : What) (n l : ℕ) (a b : Bool) (o : Option ℕ) → (a || b) ≡ is_some o → ((drops n w || a) || (says_gone n w || b)) ≡ is_some (option_or o (cut_by l n w))
cut_said (Drop nav) n l a b o h = or_four a b (nav == n) ∙ ap (λ (x : Bool). x || (nav == n)) h ∙ sym (some_more o l (nav == n))
cut_said (Gone nav) n l a b o h = or_last a b (nav == n) ∙ ap (λ (x : Bool). x || (nav == n)) h ∙ sym (some_more o l (nav == n))
cut_said w n l a b o h = h ∙ ap (λ (x : Option ℕ). is_some x) (sym (or_none o))

pub cut_is : (log : List Entry) (n : ℕ) → (((tree_of log).nav n).dropped || ((tree_of log).nav n).gone) ≡ is_some (first_cut log n)
unfolding tree_of
cut_is [] n = refl
cut_is (e ∷ older) n = cut_said e.what n (length older) ((tree_of older).nav n).dropped ((tree_of older).nav n).gone (first_cut older n) (cut_is older n)
