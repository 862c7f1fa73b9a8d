-- Refusals: document 01, "Numbers that say no". Each has its number and a detail.
use Rattle.std.specs.Prelude.{ℕ, Result}
use Rattle.terms.specs.Limits.{text_size}
use Rattle.refusals.specs.declared.Refusal.{Refusal}
use Rattle.refusals.specs.declared.Refusal.TheVariants.{Cut, Mark, Size, Weight, Kind, Coefficient, Constant, TooManyClaims, NoClaim, NotAClaim, NotATransition, SmallArea, NotEnabled, TooManyTokens, LongList, AllZero, SmallText}

-- Each is given by its number. 17 and 19 are numbers that 02 brings, and 18 is.
abbrev pub number_of : Refusal → ℕ
number_of (Cut at) = 1
number_of (Mark at) = 2
number_of (Size at) = 3
number_of (Weight at) = 4
number_of (Kind at) = 5
number_of (Coefficient at) = 6
number_of (Constant at) = 7
number_of (TooManyClaims at) = 8
number_of (NoClaim n) = 9
number_of (NotAClaim i) = 11
number_of (NotATransition t) = 12
number_of SmallArea = 13
number_of (NotEnabled p) = 15
number_of (TooManyTokens p) = 16
number_of (LongList n) = 17
number_of (AllZero at) = 18
number_of SmallText = 19

-- the number that the table gives as a detail: the byte of the fault, counted from 0, up to 8 and for 18; 9, with the sheet's length: no claim follows TG;
-- 11 and 12, with the number asked; 13, with 0; 15, with the lowest place that is short; 16, with the lowest place that would pass 65,535;
-- 17, with the list's length; 19, with the length needed
abbrev pub detail_of : Refusal → ℕ
detail_of (Cut at) = at
detail_of (Mark at) = at
detail_of (Size at) = at
detail_of (Weight at) = at
detail_of (Kind at) = at
detail_of (Coefficient at) = at
detail_of (Constant at) = at
detail_of (TooManyClaims at) = at
detail_of (NoClaim n) = n
detail_of (NotAClaim i) = i.0
detail_of (NotATransition t) = t.0
detail_of SmallArea = 0
detail_of (NotEnabled p) = p.0
detail_of (TooManyTokens p) = p.0
detail_of (LongList n) = n
detail_of (AllZero at) = at
detail_of SmallText = text_size

-- what a test answers: nothing is refused, or this is
abbrev pub Check : Type 0
Check = Result (Unit {0}) Refusal
