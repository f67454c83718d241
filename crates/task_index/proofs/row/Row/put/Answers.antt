use Rattle.std.proofs.Common.{◌≡◌, ℕ, List, true, sym, subst}
use Rattle.std.specs.BTreeSet.{contains}
use Rattle.std.specs.Ordering.{nat_cmp}
use Rattle.task_index.specs.Fed.{ascends, queued}
use Rattle.task_index.proofs.Queues.{or_left, or_later, joined_ascends, joined_kept, joined_there}
use Rattle.task_index.proofs.row.Row.put.Goals as goal

pub returns-in_ok-push_back-clause-kept : goal.returns-in_ok-push_back-clause-kept
returns-in_ok-push_back-clause-kept c =
    let items = c.args.self.now.queue.items in
    let moved = c.args.self.now.moved in
    record {
      places = λ q there.
          or_later (queued items q) (contains nat_cmp moved q) (queued c.push_back.new.self.items q) (contains nat_cmp moved q)
          (λ h. subst (λ (places : List ℕ). queued places q ≡ true) (sym c.in_ok-push_back.ensures.items) (joined_kept items c.args.place q h)) (λ h. h) there;
      order = λ h. subst (λ (places : List ℕ). ascends places ≡ true) (sym c.in_ok-push_back.ensures.items) (joined_ascends items c.args.place (c.is_behind.ensures c.if-is_behind.true) h);
    }

pub returns-in_ok-push_back-clause-there : goal.returns-in_ok-push_back-clause-there
returns-in_ok-push_back-clause-there c =
    or_left (queued c.push_back.new.self.items c.args.place) (contains nat_cmp c.args.self.now.moved c.args.place)
    (subst (λ (places : List ℕ). queued places c.args.place ≡ true) (sym c.in_ok-push_back.ensures.items) (joined_there c.args.self.now.queue.items c.args.place))
