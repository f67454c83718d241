-- What is seen of a link behind a gate.
use Rattle.std.specs.Prelude.{◌≡◌, ℕ, List, Result}
use Rattle.link_wire.specs.declared.link.LinkError.{LinkError}
use Rattle.link_port.specs.declared.gated.GatedLink.{GatedLink}

-- the link inside
abbrev pub inside : {L G : Type 0} → GatedLink L G → L
inside link = link.inner.now

-- the renderer whose calls pass the gate
abbrev pub seat : {L G : Type 0} → GatedLink L G → ℕ
seat link = link.renderer

-- it is the same renderer's, over the same link
pub record IsSame {L G : Type 0} (old new : GatedLink L G) : Type 0 where
  pub seat : seat new ≡ seat old
  pub inner : new.inner.ghost_name ≡ old.inner.ghost_name

-- a call is one of the link inside
abbrev pub CallsInside : {L G : Type 0} → (L → List ℕ → Result (Unit {0}) LinkError → List ℕ → L → Type 0)
    → GatedLink L G → List ℕ → Result (Unit {0}) LinkError → List ℕ → GatedLink L G → Type 0
CallsInside relation old request result reply new = IsSame old new × relation (inside old) request result reply (inside new)
