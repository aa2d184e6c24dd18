-- `sign_at` is `longest_sign`: past the end there is no sign; the byte at the place settles it, or that and the one behind it, or the table.
use native.Mathlib.Nat.{add-zero}
use native.Mathlib.Omega.{arith}
use mathlib.Core.Path.{◌≡◌, sym, ◌∙◌}
use Prim.Native.Nat.{◌+◌, ◌<◌}
use lib.ListN.{drop, drop_of_length-le, get_or, length}
use lib.Seq.{get_or-drop}
use Rattle.std.proofs.lemmas.List.{take_rest}
use Rattle.text.proofs.Lists.{drop_at}
use Rattle.text.specs.Runs.{same}
use Rattle.signs.specs.Signs.{longest_sign, longest_of}
use Rattle.signs.proofs.sign_at.Goals as goal

pub returns-in_err-b : goal.returns-in_err-b
unfolding longest_sign longest_of same
returns-in_err-b c =
    let h = c.in_err-b.ensures.lookup in
    c.from_residual.ensures ∙ rw (drop_of_length-le c.args.text.now {i = c.args.at} (omega (arith, h)))

pub returns-in-Some : goal.returns-in-Some
returns-in-Some c = let s = c.args.text.now in
    let h = c.in_ok-b.ensures.lookup in
    let within : c.args.at < length s = omega (arith, h) in
    let e : get_or s c.args.at 0 ≡ c.in_ok-b.field-0.now = sym (h.3.1 0) in
    sym (rw (drop_at s c.args.at within, e) (c.in-Some.ensures (drop (c.args.at + 1) s)))

pub returns-in-Some-single : goal.returns-in-Some-single
returns-in-Some-single c = let s = c.args.text.now in
    let h = c.in_ok-b.ensures.lookup in
    let within : c.args.at < length s = omega (arith, h) in
    let e : get_or s c.args.at 0 ≡ c.in_ok-b.field-0.now = sym (h.3.1 0) in
    let read = c.get-2.ensures.lookup.4 (omega arith) 0 in
    let next : get_or (drop (c.args.at + 1) s) 0 0 ≡ c.unwrap_or-next.result =
    get_or-drop (c.args.at + 1) s 0 0 ∙ rw (add-zero (c.args.at + 1)) (sym (rw (c.unwrap_or-next.ensures, c.copied.ensures) read)) in
    sym (rw (drop_at s c.args.at within, e) (c.in-Some-single.ensures (drop (c.args.at + 1) s) next))

pub returns : goal.returns
returns c = rw (take_rest c.args.text.now c.args.at) at c.by_table.ensures
