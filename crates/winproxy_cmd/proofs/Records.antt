-- The records of the workers, by number.
use Rattle.std.proofs.Common.{◌≡◌, ℕ, suc, ◌+◌, List, [], ◌∷◌, ◌++◌, length, reverse, Some, refl, ap, ◌∙◌, arith}
use Rattle.std.specs.Prelude.{slice_get}
use Rattle.std.specs.List.{flat_map}
use Rattle.tree_view.specs.declared.view.View.{Ghosts}
use Rattle.trace_text.specs.RecordText.{record_words}
use Rattle.single_agent.specs.Turns.{Turned, record_of}
use Rattle.session_player.specs.declared.worker.Worker.{Worker}
use Rattle.winproxy_cmd.specs.Command.{records_words}
use Rattle.session_player.specs.Underway.{Seat, seat_of, seats_of}

abbrev pub worker_words : {V : Type 0} {view : Ghosts V} → Worker V view → List ℕ
worker_words w = record_words w.renderer (reverse w.acts.items)

-- the workers stand by their numbers from r on, and hold the records of their renderers
pub are_records : {V : Type 0} (view : Ghosts V) (ws : List (Worker V view)) (turns : List Turned) (r : ℕ)
    → ((i : ℕ) (x : Seat) → slice_get (seats_of view ws) i ≡ Some x → (x.renderer ≡ r + i) × (x.holds.acts ≡ record_of (r + i) turns))
    → flat_map worker_words ws ≡ records_words turns r (length ws)
are_records view [] turns r h = refl
are_records view (w ∷ ws) turns r h =
    let here = h 0 (seat_of view w) refl in
    let n : w.renderer ≡ r = here.0 ∙ (omega arith) in
    let acts : reverse w.acts.items ≡ record_of r turns = here.1 ∙ ap (λ k. record_of k turns) (let z : r + 0 ≡ r = omega arith in z) in
    let rest = are_records view ws turns (suc r) (λ i x at. let e = h (suc i) x at in let z : r + suc i ≡ suc r + i = omega arith in (e.0 ∙ z, e.1 ∙ ap (λ k. record_of k turns) z)) in
    ap (λ k. record_words k (reverse w.acts.items) ++ flat_map worker_words ws) n ∙ ap (λ a. record_words r a ++ flat_map worker_words ws) acts ∙ ap (λ rest. record_words r (record_of r turns) ++ rest) rest
