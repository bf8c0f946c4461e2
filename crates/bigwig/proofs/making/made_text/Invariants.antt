use Rattle.bigwig.proofs.making.made_text.Given as goal

abbrev pub ghosts-turns : goal.ghosts-turns
ghosts-turns a c = record { name = c.blank.name; parts = c.blank.parts }
