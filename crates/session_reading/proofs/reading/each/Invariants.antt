use Rattle.std.proofs.Common.{◌≡◌, [], drop, length, All}
use Rattle.serde_json.specs.View.{items_view}
use Rattle.session_reading.specs.Reading as spec
use Rattle.session_reading.proofs.reading.each.Given as goal

-- reading goes on as from the start
abbrev pub invariant-loop-i : goal.invariant-loop-i
invariant-loop-i g l =
    let reads = g.R.ReadsItem.reads_item l.item in
    record {
      counted : length l.found ≡ l.i;
      rest : spec.each reads l.found (items_view (drop l.i l.values)) ≡ spec.each reads [] (items_view l.values);
      held : All g.R.ReadsItem.holds_item l.found;
    }
