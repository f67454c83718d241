use Rattle.std.proofs.Common.{◌∷◌, [], ap, map, string_bytes, sym, ◌∙◌}
use Rattle.winproxy_cmd.specs.Command.{form_of}
use Rattle.winproxy_cmd.proofs.Words.{single}
use Rattle.winproxy_cmd.proofs.forms.form_of.Goals as goal

pub returns-in-len1 : goal.returns-in-len1
returns-in-len1 c =
    let one = single c.args.words.now c.word-item.result c.in-len1.len_at_least c.in-len1.len_below in
    c.form_named.ensures ∙ sym (ap form_of (ap (map string_bytes) one ∙ ap (λ w. w ∷ []) (ap string_bytes (sym c.word-item.is) ∙ sym c.as_str.ensures.value)))
