use Rattle.std.proofs.Common.{◌≡◌, ◌++◌, codes, ap, ◌∙◌, rules, string_bytes}
use Rattle.trace_text.specs.RecordText.{key_words}
use Rattle.plain_data.proofs.Texts.{pieces-more, item_written}
use Rattle.trace_text.proofs.answer_text.keys_text.Goals as goal

pub loop-i-preserved : goal.loop-i-preserved
loop-i-preserved c =
    let more = pieces-more key_words c.args.keys.now c.loop-i.i c.index-keys-i.result c.loop-i-test.true in
    let pushed : string_bytes c.push_str.new.self ≡ string_bytes c.separate.new.out ++ key_words c.index-keys-i.result = search rules in
    item_written (codes "[") _ _ _ _ _ _ _ c.loop-i.invariant (c.in_ok-separate.ensures {u = tt})
    (pushed ∙ ap (λ key. string_bytes c.separate.new.out ++ key_words key) c.index-keys-i.is) more
