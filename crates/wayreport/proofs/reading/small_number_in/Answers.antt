-- The proof of `small_number_in`: decimal digits are read as their number.
use Rattle.std.proofs.Common.{◌≡◌, ℕ, ◌<◌, ◌^◌, Ok, Err, arith}
use Rattle.std.proofs.lemmas.Fmt.{parse-decimal}
use Rattle.wayreport.proofs.reading.small_number_in.Goals as goal

pub returns-in-Ok : goal.returns-in-Ok
returns-in-Ok c = λ n small is.
    let wide : n < 2 ^ 64 = omega (arith, small) in
    let e : Ok c.in-Ok.number ≡ Ok n = parse-decimal {E = ℕ} 32 n c.args.text.now (Ok c.in-Ok.number) small wide is c.in-Ok.ensures.value.0 in
    cc

pub returns-in-Err : goal.returns-in-Err
returns-in-Err c = λ n small is.
    let wide : n < 2 ^ 64 = omega (arith, small) in
    let e = parse-decimal 32 n c.args.text.now (Err c.in-Err.field-0) small wide is c.in-Err.ensures.value.0 in
    absurd cc
