-- Document 01, Grammar: what holds statements; and the lists of document 02, U2.

-- what may hold a declaration: a program or function body, and what may not: a block, or a clause of a `switch`
pub data Scope : Type 0 where
  body : Scope
  block : Scope

-- the lists of document 02, U2, that have values for items
pub data Items : Type 0 where
  call_arguments array_elements object_properties : Items
