-- What a text that is written leaves where it goes.
use Rattle.std.specs.Prelude.{◌≡◌, ℕ, ◌<◌, List, ◌++◌, length}

-- the whole begins with the front, and goes on
pub record IsProperFrontOf (front whole : List ℕ) : Type 0 where
  pub rest : List ℕ
  pub more : 0 < length rest
  pub splits : whole ≡ front ++ rest

-- the bytes have grown by a proper front of the text
pub record GrowsByProperFront (before now text : List ℕ) : Type 0 where
  pub front : List ℕ
  pub is_front : IsProperFrontOf front text
  pub grown : now ≡ before ++ front
