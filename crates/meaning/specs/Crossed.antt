-- A field whose raw value at (3,3) is above the cheapest chain.
use Rattle.std.specs.Prelude.{[], ◌∷◌, replicate}
use Rattle.rules.specs.Field.{Field}

-- 7 by 7 cells, the 25 within three steps of (3,3) open, (2,3) and (2,4) with a second span each; between these two cells layer 0 of one
-- leads to layer 1 of the other. A row of the field to a line; of the connections, a span.
unfoldable pub crossed : Field
crossed =
    record {
      w = 7;
      h = 7;
      index =
          0 ∷ 0 ∷ 0 ∷ 0 ∷ 1 ∷ 1 ∷ 1 ∷
          1 ∷ 1 ∷ 1 ∷ 2 ∷ 3 ∷ 4 ∷ 4 ∷
          4 ∷ 4 ∷ 5 ∷ 6 ∷ 7 ∷ 8 ∷ 9 ∷
          9 ∷ 10 ∷ 11 ∷ 13 ∷ 14 ∷ 15 ∷ 16 ∷
          17 ∷ 17 ∷ 18 ∷ 20 ∷ 21 ∷ 22 ∷ 23 ∷
          23 ∷ 23 ∷ 23 ∷ 24 ∷ 25 ∷ 26 ∷ 26 ∷
          26 ∷ 26 ∷ 26 ∷ 26 ∷ 27 ∷ 27 ∷ 27 ∷ [];
      count =
          0 ∷ 0 ∷ 0 ∷ 1 ∷ 0 ∷ 0 ∷ 0 ∷
          0 ∷ 0 ∷ 1 ∷ 1 ∷ 1 ∷ 0 ∷ 0 ∷
          0 ∷ 1 ∷ 1 ∷ 1 ∷ 1 ∷ 1 ∷ 0 ∷
          1 ∷ 1 ∷ 2 ∷ 1 ∷ 1 ∷ 1 ∷ 1 ∷
          0 ∷ 1 ∷ 2 ∷ 1 ∷ 1 ∷ 1 ∷ 0 ∷
          0 ∷ 0 ∷ 1 ∷ 1 ∷ 1 ∷ 0 ∷ 0 ∷
          0 ∷ 0 ∷ 0 ∷ 1 ∷ 0 ∷ 0 ∷ 0 ∷ [];
      area = replicate 27 1;
      con =
          255 ∷ 0 ∷ 255 ∷ 255 ∷
          255 ∷ 0 ∷ 0 ∷ 255 ∷
          0 ∷ 0 ∷ 0 ∷ 0 ∷
          0 ∷ 0 ∷ 255 ∷ 255 ∷
          255 ∷ 0 ∷ 0 ∷ 255 ∷
          0 ∷ 0 ∷ 0 ∷ 0 ∷
          0 ∷ 0 ∷ 0 ∷ 0 ∷
          0 ∷ 0 ∷ 0 ∷ 0 ∷
          0 ∷ 0 ∷ 255 ∷ 255 ∷
          255 ∷ 255 ∷ 0 ∷ 255 ∷
          0 ∷ 0 ∷ 0 ∷ 0 ∷
          0 ∷ 1 ∷ 0 ∷ 0 ∷
          255 ∷ 0 ∷ 255 ∷ 255 ∷
          0 ∷ 0 ∷ 0 ∷ 0 ∷
          0 ∷ 0 ∷ 0 ∷ 0 ∷
          0 ∷ 0 ∷ 0 ∷ 0 ∷
          0 ∷ 255 ∷ 255 ∷ 255 ∷
          255 ∷ 255 ∷ 0 ∷ 0 ∷
          0 ∷ 0 ∷ 0 ∷ 1 ∷
          255 ∷ 255 ∷ 255 ∷ 0 ∷
          0 ∷ 0 ∷ 0 ∷ 0 ∷
          0 ∷ 0 ∷ 0 ∷ 0 ∷
          0 ∷ 255 ∷ 255 ∷ 0 ∷
          255 ∷ 255 ∷ 0 ∷ 0 ∷
          0 ∷ 0 ∷ 0 ∷ 0 ∷
          0 ∷ 255 ∷ 255 ∷ 0 ∷
          255 ∷ 255 ∷ 255 ∷ 0 ∷ [];
    }
