-- The most bytes of each part of a job's text. Definitions only.
use Rattle.std.specs.Prelude.{ℕ, ◌+◌, ◌*◌}
use Rattle.definitions.specs.Table.{largest_dimension}
use Rattle.definitions.specs.Settings.{largest_places}
use Rattle.writing.specs.Sizes.{decimal_size, hexadecimal_size, point_size}

-- "nearest ", the count, a blank, the distance, the point, the line's end
abbrev pub nearest_size : ℕ
nearest_size = 8 + decimal_size + 1 + hexadecimal_size + point_size largest_dimension + 1

-- a listed point's distance, the point, the line's end
abbrev pub listed_size : ℕ
listed_size = hexadecimal_size + point_size largest_dimension + 1

-- "list ", the nodes, a blank, the number of points, the line's end, and a line for each of so many points
abbrev pub list_size : ℕ → ℕ
list_size points = 5 + decimal_size + 1 + decimal_size + 1 + listed_size * points

-- "ratio holds" or "ratio fails", which are the longest, the line's end
abbrev pub ratio_size : ℕ
ratio_size = 12

-- the list's lines and the ratio's
abbrev pub list_part_size : ℕ
list_part_size = list_size largest_places + ratio_size

-- no text is longer
abbrev pub output_size : ℕ
output_size = nearest_size + list_part_size
