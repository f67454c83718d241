-- What holds where a result is good, where it is.
use Rattle.std.proofs.Common.{Result, Ok, Err}
use Rattle.std.specs.Prelude.{IfOk, IsOk, OnOk}

pub ok_then : {T E P : Type 0} (r : Result T E) → IsOk r → OnOk r P → P
ok_then (Ok x) is h = h
ok_then (Err e) is h = absurd cc

pub if_ok : {T E : Type 0} (r : Result T E) (P Q : T → Type 0) → ((x : T) → P x → Q x) → IfOk r P → IfOk r Q
if_ok (Ok x) P Q f h = f x h
if_ok (Err e) P Q f h = tt
