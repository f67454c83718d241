use Rattle.std.proofs.Common.{◌++◌, ◌∙◌, ap, sym}
use Rattle.std.specs.Option.{option_copied}
use Rattle.std.proofs.lemmas.Result.{on_ok_weaker}
use Rattle.link_fields.specs.Basic.{u16, u32, text, flags, optional}
use Rattle.link_fields.specs.Origins.{origin}
use Rattle.frame_grammar.specs.Entries.{what_body}
use Rattle.link_wire.specs.Shown.{what_with}
use Rattle.link_wire.proofs.Writes.{two_put}
use Rattle.link_wire.proofs.entry_writing.put_what.Goals as goal

pub returns-in_ok-put_optional_u32-in-Open-2 : goal.returns-in_ok-put_optional_u32-in-Open-2
returns-in_ok-put_optional_u32-in-Open-2 c =
    on_ok_weaker c.put_optional_load.result (λ e.
    two_put _ _ _ (u32.spell c.in-Open.nav) _ (c.in_ok-put_u32-in-Open.ensures {u = tt})
    (two_put _ _ _ (u32.spell c.in-Open.doc) _ (c.in_ok-put_u32-in-Open-2.ensures {u = tt})
    (two_put _ _ _ (u32.spell c.in-Open.group) _ (c.in_ok-put_u32-in-Open-3.ensures {u = tt})
    (two_put _ _ _ (u16.spell c.in-Open.home) _ (c.in_ok-put_u16-in-Open.ensures {u = tt})
    (two_put _ _ _ (origin.spell c.in-Open.origin) _ (c.in_ok-put_origin-in-Open.ensures {u = tt})
    (two_put _ _ _ (text.spell c.in-Open.name) _ (c.in_ok-put_text-in-Open.ensures {u = tt})
    (two_put _ _ _ ((optional u32).spell c.in-Open.opener) _ (c.in_ok-put_optional_u32-in-Open.ensures {u = tt})
    (two_put _ _ _ (flags.spell c.in-Open.flags) _ (c.in_ok-put_flags-in-Open.ensures {u = tt})
    (two_put _ _ _ ((optional u32).spell c.in-Open.navigator) _ (c.in_ok-put_optional_u32-in-Open-2.ensures {u = tt})
    (e)))))))))
    ∙ ap (λ w. c.args.out.now.items ++ what_body (what_with (option_copied c.args.other) w)) (sym c.in-Open.is)) c.put_optional_load.ensures

pub returns-in_ok-put_flags-in-Frame : goal.returns-in_ok-put_flags-in-Frame
returns-in_ok-put_flags-in-Frame c =
    on_ok_weaker c.put_optional_load-in-Frame.result (λ e.
    two_put _ _ _ (u32.spell c.in-Frame.nav) _ (c.in_ok-put_u32-in-Frame.ensures {u = tt})
    (two_put _ _ _ (u32.spell c.in-Frame.doc) _ (c.in_ok-put_u32-in-Frame-2.ensures {u = tt})
    (two_put _ _ _ (u16.spell c.in-Frame.home) _ (c.in_ok-put_u16-in-Frame.ensures {u = tt})
    (two_put _ _ _ (origin.spell c.in-Frame.origin) _ (c.in_ok-put_origin-in-Frame.ensures {u = tt})
    (two_put _ _ _ (text.spell c.in-Frame.name) _ (c.in_ok-put_text-in-Frame.ensures {u = tt})
    (two_put _ _ _ (flags.spell c.in-Frame.flags) _ (c.in_ok-put_flags-in-Frame.ensures {u = tt})
    (e))))))
    ∙ ap (λ w. c.args.out.now.items ++ what_body (what_with (option_copied c.args.other) w)) (sym c.in-Frame.is)) c.put_optional_load-in-Frame.ensures
