-- The messages of a scripted user, and the body of a reply.
use Rattle.std.specs.Prelude.{ℕ, Bool, List, [], ◌∷◌, ◌++◌, codes, decimal, length, take, drop, cond, ◌==◌, ◌&&◌}
use Rattle.std.specs.Str.{bytes_eq}

-- a GET of a target
abbrev pub get : List ℕ → List ℕ
get target = codes "GET " ++ (target ++ codes " HTTP/1.1\r\nHost: a\r\n\r\n")

-- a POST of a form's body to a target
abbrev pub post : List ℕ → List ℕ → List ℕ
post target body =
    codes "POST " ++ (target
    ++ (codes " HTTP/1.1\r\nHost: a\r\nContent-Type: application/x-www-form-urlencoded\r\nContent-Length: "
    ++ (decimal (length body) ++ (codes "\r\n\r\n" ++ body))))

-- an empty line begins behind this byte
abbrev pub is_last : ℕ → List ℕ → Bool
is_last b bytes = b == 13 && bytes_eq (take 3 bytes) (codes "\n\r\n")

-- what stands behind the first empty line, or nothing where there is none
abbrev pub body_in : List ℕ → List ℕ
body_in [] = []
body_in (b ∷ bytes) = cond (is_last b bytes) (drop 3 bytes) (body_in bytes)
