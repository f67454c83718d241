use Rattle.std.proofs.Common.{◌≡◌, ◌∙◌, ◌++◌, ◌∷◌, [], arith, sym, subst, ap, length, length-append}
use Rattle.std.proofs.lemmas.Grind.{common_steps}
use Rattle.session_player.specs.Underway.{AreFresh, seat_of, seats_of}
use Rattle.session_player.proofs.Leaves.{map_length}
use Rattle.session_player.proofs.Begins.{fresh_more, seats_more, fresh_holds}
use Rattle.session_player.proofs.playing.hired.Goals as goal

pub numbers-preserved : goal.numbers-preserved
numbers-preserved g c =
    let i = c.numbers.invariant in
    let pushed : c.push.new.self.items ≡ c.numbers.workers.items ++ c.new.result ∷ [] = grind (arith, common_steps) in
    let e = c.new.ensures in
    record {
      count = omega (arith, ap length pushed, length-append c.numbers.workers.items (c.new.result ∷ []), i.count);
      are_fresh = subst AreFresh (sym (ap (seats_of g.V.View) pushed ∙ seats_more g.V.View c.numbers.workers.items c.new.result))
          (fresh_more (seats_of g.V.View c.numbers.workers.items) (seat_of g.V.View c.new.result) i.are_fresh (e.renderer ∙ sym i.count ∙ sym (map_length (seat_of g.V.View) c.numbers.workers.items))
          (fresh_holds _ _ _ _ _ _ _ e.acts e.heard e.tree e.urls e.run e.registers e.stores));
    }
