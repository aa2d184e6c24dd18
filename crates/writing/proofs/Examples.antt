-- The definition at numbers whose digits are read off.
use mathlib.Core.Path.{◌≡◌, refl}
use Rattle.text.specs.Quoted.{bytes}
use Rattle.writing.specs.Numbers.{digits, decimal}

zero_is : decimal 0 ≡ bytes "0"
unfolding decimal digits
zero_is = refl

ten_is : decimal 10 ≡ bytes "10"
unfolding decimal digits
ten_is = refl
