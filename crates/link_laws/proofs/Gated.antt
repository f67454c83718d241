-- An exchange behind a gate.
use Rattle.std.proofs.Common.{ℕ, List, Option, refl, ◌∙◌}
use Rattle.tree_log.specs.declared.entry.Entry.{Entry}
use Rattle.agent_terms.specs.declared.request.Request.{Request}
use Rattle.link_exchange.specs.Calls.{Course, Exchanges}
use Rattle.link_port.specs.Gated.{inside, CallsInside, IsSame}
use Rattle.link_port.specs.declared.gated.GatedLink.{GatedLink}
use Rattle.link_wire.specs.declared.link.Link.{Ghosts}
use Rattle.link_wire.specs.Links.{Pending}
use Rattle.link_laws.proofs.Carried.{carried, kept_so}

-- what is said of a link behind a gate
abbrev pub gated : {L G : Type 0} → Ghosts L → Ghosts (GatedLink L G)
gated link = record {
  renderer = λ l. link.renderer (inside l);
  heard = λ l. link.heard (inside l);
  pending = λ l. link.pending (inside l);
  faults = λ l. link.faults (inside l);
  relation = CallsInside link.relation;
}

-- an exchange behind a gate is one of the link inside
pub gate_passes : {L G : Type 0} (link : Ghosts L) (r : ℕ) (l m : GatedLink L G) (heard : List Entry) (pending : Option Pending) (q : Request) (course : Course)
    → Exchanges (gated link) r l heard pending q course m → Exchanges link r (inside l) heard pending q course (inside m)
gate_passes {L} {G} link r l m heard pending q course calls =
    carried (gated link) link inside (λ x. Unit {0}) (λ x. Unit {0})
    (record {
      more = tt;
      call = λ x y asked result bytes asks is call. record {
        relation = call.relation.1;
        answers = call.answers;
        hears = call.hears;
        goes_on = call.goes_on;
        stays = call.stays;
        fails = call.fails;
        counts = call.counts;
      };
      kept = λ x y asked result bytes asks is call. tt;
    })
    r l m heard pending q course tt tt calls

pub itself : {L G : Type 0} (l : GatedLink L G) → IsSame l l
itself l = record { seat = refl; inner = refl }

pub then_same : {L G : Type 0} (k l m : GatedLink L G) → IsSame k l → IsSame l m → IsSame k m
then_same k l m a b = record { seat = b.seat ∙ a.seat; inner = b.inner ∙ a.inner }

-- it stays over the same link
pub gate_stays : {L G : Type 0} (link : Ghosts L) (r : ℕ) (l m : GatedLink L G) (heard : List Entry) (pending : Option Pending) (q : Request) (course : Course)
    → Exchanges (gated link) r l heard pending q course m → IsSame l m
gate_stays link = kept_so (gated link) IsSame itself then_same (λ l m q result bytes call. call.relation.0)
