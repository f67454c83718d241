-- Links over a coordinator that no one else talks to: with a gate before it, and without.
use Rattle.std.proofs.Common.{ℕ, List, Bool, true, false, Option, Some, Ok, Err, refl, sym, subst, ◌∙◌}
use Rattle.std.specs.Prelude.{Result}
use Rattle.agent_terms.specs.declared.request.Request.{Request}
use Rattle.desk.specs.Serving.{Coordinator}
use Rattle.link_exchange.specs.Calls.{Course, Exchanges}
use Rattle.link_port.specs.Direct as direct
use Rattle.link_port.specs.Failing as failed
use Rattle.link_port.specs.Failing.{Passes, Refuses, refuses, RefusesOr}
use Rattle.link_port.specs.Gated as gate
use Rattle.link_port.specs.Gated.{inside}
use Rattle.link_port.specs.declared.direct.DirectLink.{DirectLink}
use Rattle.link_port.specs.declared.failing.FailingLink.{FailingLink}
use Rattle.link_port.specs.declared.gated.GatedLink.{GatedLink}
use Rattle.link_wire.specs.declared.link.Link.{Ghosts}
use Rattle.link_wire.specs.declared.link.LinkError.{LinkError}
use Rattle.link_wire.specs.declared.link.LinkError.TheVariants.{Failed, NoMemory}
use Rattle.link_wire.specs.Links.{Pending}
use Rattle.link_wire.specs.Requests.{request_frame}
use Rattle.tree_log.specs.declared.entry.Entry.{Entry}
use Rattle.link_laws.specs.Playing.{inmost}
use Rattle.link_laws.proofs.Carried.{kept_so}
use Rattle.link_laws.proofs.Failing.{failing}
use Rattle.link_laws.proofs.Gated.{gated}
use Rattle.link_laws.proofs.Gated.{itself as sits, then_same as sits_then}
use Rattle.link_laws.proofs.Served.{IsOver}

-- what is said of a link over a coordinator
abbrev pub straight : {V : Type 0} {g : _} → Ghosts (DirectLink V g)
straight = record {
  renderer = λ l. Some (direct.seat l);
  heard = λ l. Some (direct.heard l);
  pending = λ l. direct.pending l;
  faults = λ l. 0;
  relation = direct.Exchanges;
}

pub straight_over : {V : Type 0} {g : _} → IsOver (straight {V = V} {g = g}) direct.seat direct.below
straight_over = record {
  renderer = λ l. refl;
  heard = λ l. refl;
  faults = λ l. refl;
  stays = λ l m bytes reply h. h.0.seat;
  served = λ l m bytes reply h. h.1;
}

abbrev pub seat : {V G : Type 0} {g : _} → GatedLink (DirectLink V g) G → ℕ
seat l = direct.seat (inside l)

abbrev pub below : {V G : Type 0} {g : _} → GatedLink (DirectLink V g) G → Coordinator
below l = direct.below (inside l)

pub gated_over : {V G : Type 0} {g : _} → IsOver (gated {G = G} (straight {V = V} {g = g})) seat below
gated_over = record {
  renderer = λ l. refl;
  heard = λ l. refl;
  faults = λ l. refl;
  stays = λ l m bytes reply h. h.1.0.seat;
  served = λ l m bytes reply h. h.1.1;
}

-- IT STAYS OVER THE SAME COORDINATOR

same_by : {V : Type 0} {g : _} (old new : DirectLink V g) (request reply : List ℕ) (result : Result (Unit {0}) LinkError) → direct.Exchanges old request result reply new → direct.IsSame old new
same_by old new request reply (Ok x) h = h.0
same_by old new request reply (Err NoMemory) h = h.0
same_by old new request reply (Err Failed) h = absurd h

itself : {V : Type 0} {g : _} (l : DirectLink V g) → direct.IsSame l l
itself l = record { seat = refl; desk = refl }

then_same : {V : Type 0} {g : _} (k l m : DirectLink V g) → direct.IsSame k l → direct.IsSame l m → direct.IsSame k m
then_same k l m a b = record { seat = b.seat ∙ a.seat; desk = b.desk ∙ a.desk }

pub straight_same : {V : Type 0} {g : _} (r : ℕ) (l m : DirectLink V g) (heard : List Entry) (pending : Option Pending) (q : Request) (course : Course)
    → Exchanges straight r l heard pending q course m → direct.IsSame l m
straight_same = kept_so straight direct.IsSame itself then_same (λ l m q result bytes call. same_by l m (request_frame q) bytes result call.relation)

-- the links inside stay over the same ones
abbrev IsSameInside : {V G : Type 0} {g : _} → FailingLink (GatedLink (DirectLink V g) G) → FailingLink (GatedLink (DirectLink V g) G) → Type 0
IsSameInside old new = gate.IsSame (failed.inside old) (failed.inside new) × direct.IsSame (inmost old) (inmost new)

inside_by : {V G : Type 0} {g : _} (old new : FailingLink (GatedLink (DirectLink V g) G)) (request reply : List ℕ) (result : Result (Unit {0}) LinkError) (b : Bool)
    → RefusesOr b (Refuses old result reply new) (Passes (gated straight).relation old request result reply new) → IsSameInside old new
inside_by old new request reply result true h = subst (λ x. gate.IsSame (failed.inside old) x × direct.IsSame (inmost old) (inside x)) (sym h.inside) (sits (failed.inside old), itself (inmost old))
inside_by old new request reply result false h = (h.inside.0, same_by (inmost old) (inmost new) request h.bytes h.answer h.inside.1)

pub inside_same : {V G : Type 0} {g : _} (r : ℕ) (l m : FailingLink (GatedLink (DirectLink V g) G)) (heard : List Entry) (pending : Option Pending) (q : Request) (course : Course)
    → Exchanges (failing (gated straight)) r l heard pending q course m → IsSameInside l m
inside_same =
    kept_so (failing (gated straight)) IsSameInside (λ l. (sits (failed.inside l), itself (inmost l)))
    (λ k l m a b. (sits_then (failed.inside k) (failed.inside l) (failed.inside m) a.0 b.0, then_same (inmost k) (inmost l) (inmost m) a.1 b.1))
    (λ l m q result bytes call. inside_by l m (request_frame q) bytes result (refuses l (request_frame q)) call.relation)
