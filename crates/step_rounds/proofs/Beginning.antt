-- A renderer that has heard nothing, over a link that tells so.
use Rattle.std.proofs.Common.{◌≡◌, ◌∙◌, ℕ, List, [], Option, Some, None, ap, sym, subst}
use Rattle.std.specs.Prelude.{unwrap_or}
use Rattle.agent_terms.specs.declared.session.Page.{Page}
use Rattle.coordinator_rules.specs.Told.{told_log}
use Rattle.desk.specs.History.{log_of, told_of}
use Rattle.desk.specs.declared.item.Item.{Item}
use Rattle.link_port.specs.Hearing.{heard_of}
use Rattle.link_wire.specs.declared.link.Link.{Ghosts}
use Rattle.renderer.specs.Fitting.{IsFor}
use Rattle.renderer.specs.Holding.{Holds, fresh}
use Rattle.tree_log.proofs.Places.{prefix_none}
use Rattle.tree_log.specs.Log.{prefix}

pub none_heard : (r : ℕ) (history : List Item) → told_of history r ≡ 0 → heard_of r history ≡ []
none_heard r history none = subst (λ (k : ℕ). prefix k (told_log r (log_of history)) ≡ []) (sym none) (prefix_none (told_log r (log_of history)))

some_is : {A : Type 0} (a b : A) → Some a ≡ Some b → a ≡ b
some_is {A} a b h = ap (λ (o : Option A). unwrap_or o a) h

pub first_fits : {L : Type 0} (link : Ghosts L) (w : Holds) (l : L) (r : ℕ) (pages : List Page) → w ≡ fresh r pages → link.renderer l ≡ Some r → link.heard l ≡ Some [] → link.pending l ≡ None → IsFor link w l
first_fits link w l r pages is renderer heard pending =
    subst (λ (h : Holds). IsFor link h l) (sym is) (λ _. record {
      renderer = λ x same. some_is x r (sym same ∙ renderer);
      heard_are = λ entries same. some_is entries [] (sym same ∙ heard);
      under = λ entries same. pending;
    })
