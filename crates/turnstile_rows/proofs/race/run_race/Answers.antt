use Rattle.std.proofs.Common.{◌<◌, ◌∙◌, sym, ap, subst, length, take, drop}
use Rattle.std.proofs.lemmas.List.{length-map}
use Rattle.turnstile_rows.specs.Raced.{AreSet, HavePasses, added_of}
use Rattle.turnstile_rows.proofs.Shares.{all_set, set_have, back_set, as_many, lent, told}
use Rattle.turnstile_rows.proofs.race.run_race.Goals as goal

pub round-requires-clause-set : goal.round-requires-clause-set
round-requires-clause-set g c κs within =
    let h = c.in_ok-racers.ensures in
    subst (AreSet c.in-Ok.gate.id) (sym c.as_mut_slice.ensures.value)
    (all_set c.in-Ok.gate.id c.args.log.items.items c.in-Ok.passes.items c.in_ok-racers.racers.items h.passes h.new c.in-Ok.ensures.passes c.in-Ok.ensures.seen c.requires.empty)

pub part-passes-requires-clause-here : goal.part-passes-requires-clause-here
part-passes-requires-clause-here g c =
    let is = lent c.in_ok-racers.racers.len c.round.new.racers (drop (length c.round.new.racers) c.in_ok-racers.racers.items) (c.round.ensures.length ∙ c.as_mut_slice.ensures.len) in
    subst HavePasses (sym is) (set_have c.in-Ok.gate.id c.round.new.racers c.round.ensures.set)

pub close-log-requires-clause-count : goal.close-log-requires-clause-count
close-log-requires-clause-count g c =
    let is = lent c.in_ok-racers.racers.len c.round.new.racers (drop (length c.round.new.racers) c.in_ok-racers.racers.items) (c.round.ensures.length ∙ c.as_mut_slice.ensures.len) in
    as_many c.part-passes.result.0.items _ c.part-passes.ensures.passes ∙ (ap length is ∙ (c.round.ensures.length ∙ (ap length c.as_mut_slice.ensures.value ∙ (sym (as_many c.in-Ok.passes.items c.in_ok-racers.racers.items (sym c.in_ok-racers.ensures.passes)) ∙ (c.in-Ok.ensures.count ∙ sym c.in-Ok.ensures.turnstile.0)))))

pub close-log-requires-clause-passes : goal.close-log-requires-clause-passes
close-log-requires-clause-passes g c =
    let is = lent c.in_ok-racers.racers.len c.round.new.racers (drop (length c.round.new.racers) c.in_ok-racers.racers.items) (c.round.ensures.length ∙ c.as_mut_slice.ensures.len) in
    back_set c.in-Ok.gate.id c.part-passes.result.0.items _ (subst (AreSet c.in-Ok.gate.id) (sym is) c.round.ensures.set) c.part-passes.ensures.passes

pub returns-clause-records : goal.returns-clause-records
returns-clause-records g c k d lt =
    let is = lent c.in_ok-racers.racers.len c.round.new.racers (drop (length c.round.new.racers) c.in_ok-racers.racers.items) (c.round.ensures.length ∙ c.as_mut_slice.ensures.len) in
    let many = ap length is ∙ (c.round.ensures.length ∙ (ap length c.as_mut_slice.ensures.value ∙ (sym (as_many c.in-Ok.passes.items c.in_ok-racers.racers.items (sym c.in_ok-racers.ensures.passes)) ∙ c.in-Ok.ensures.count))) in
    told c.in-Ok.gate.id c.part-passes.result.0.items _ c.part-passes.result.1.items c.close-log.result.items.items (subst (AreSet c.in-Ok.gate.id) (sym is) c.round.ensures.set) c.part-passes.ensures.passes c.part-passes.ensures.records c.close-log.ensures.seen k d (subst (λ n. k < n) (sym many) lt)

pub returns-clause-count : goal.returns-clause-count
returns-clause-count g c =
    let is = lent c.in_ok-racers.racers.len c.round.new.racers (drop (length c.round.new.racers) c.in_ok-racers.racers.items) (c.round.ensures.length ∙ c.as_mut_slice.ensures.len) in
    let many = ap length is ∙ (c.round.ensures.length ∙ (ap length c.as_mut_slice.ensures.value ∙ (sym (as_many c.in-Ok.passes.items c.in_ok-racers.racers.items (sym c.in_ok-racers.ensures.passes)) ∙ c.in-Ok.ensures.count))) in
    ap length c.part-passes.ensures.records ∙ (length-map (take c.in_ok-racers.racers.len _) added_of ∙ many)
