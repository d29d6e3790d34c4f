-- How some numbers are packed.
use Rattle.lemmas.proofs.{◌≡◌, ℤ, pos, negsuc, List, [], ◌∷◌, refl}
use Rattle.columns.specs.{packed_of, packing_of, values_in}

four_numbers : packing_of (pos 10 ∷ pos 25 ∷ pos 40 ∷ pos 5 ∷ []) ≡ record { least = pos 5; width = 1 }
four_numbers = refl

their_bytes : packed_of (pos 10 ∷ pos 25 ∷ pos 40 ∷ pos 5 ∷ []) ≡ 5 ∷ 20 ∷ 35 ∷ 0 ∷ []
their_bytes = refl

abbrev ends : List ℤ
ends = negsuc 9223372036854775807 ∷ pos 9223372036854775807 ∷ []

the_ends_of_64_bits : packing_of ends ≡ record { least = negsuc 9223372036854775807; width = 8 }
the_ends_of_64_bits = refl

they_come_back : values_in (negsuc 9223372036854775807) 8 2 (packed_of ends) ≡ ends
they_come_back = refl

width_of_256 : packing_of (pos 0 ∷ pos 256 ∷ []) ≡ record { least = pos 0; width = 2 }
width_of_256 = refl

width_of_255 : packing_of (pos 0 ∷ pos 255 ∷ []) ≡ record { least = pos 0; width = 1 }
width_of_255 = refl

equal_numbers : packing_of (pos 7 ∷ pos 7 ∷ pos 7 ∷ []) ≡ record { least = pos 7; width = 0 }
equal_numbers = refl

no_bytes : packed_of (pos 7 ∷ pos 7 ∷ pos 7 ∷ []) ≡ []
no_bytes = refl
