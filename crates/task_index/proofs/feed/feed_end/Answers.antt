use Rattle.std.proofs.Common.{◌≡◌, Bool, Option, None, true, false, cond, refl, sym, ap, subst, ◌∙◌}
use Rattle.std.specs.Option.{is_none, option_copied}
use Rattle.std.specs.Prelude.{◌||◌, ◌&&◌, ◌==◌}
use Rattle.tree_log.specs.declared.entry.Entry.{Entry}
use Rattle.tree_log.specs.Log.{entry_at}
use Rattle.task_index.specs.Fed.{has_early, holds_message, over_at}
use Rattle.task_index.proofs.feed.feed_end.Goals as goal

or_is : (a b : Bool) → cond a true b ≡ a || b
or_is true b = refl
or_is false b = refl

pub returns-in_ok-insert-in-None-clause-ok : goal.returns-in_ok-insert-in-None-clause-ok
returns-in_ok-insert-in-None-clause-ok c =
    let old = c.args.waiting.now in
    let doc = c.args.doc in
    let post = c.args.post in
    let none : entry_at c.args.log.now.entries post ≡ None = sym c.at.ensures ∙ ap option_copied c.in-None.is in
    record {
      over = λ place. subst (λ (o : Option Entry). over_at old.over.items place ≡ (holds_message o doc && post == place) || over_at old.over.items place) (sym none) refl;
      early = λ to place.
          c.in_ok-insert-in-None.ensures.updates.0 (to, place)
          ∙ or_is (doc == to && post == place) (has_early old to place)
          ∙ ap (λ (o : Option Entry). (is_none o && (doc == to && post == place)) || has_early old to place) (sym none);
      closings = λ nav. refl;
      places = record { places = λ r place h. h; order = λ h. h };
    }
