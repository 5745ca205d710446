-- A typing whose references to some marked classes are lowered to null is a typing still, where no instruction pushes such a
-- reference. So the least typing has none: no interface, and of closed classes with more behind none of those behind.
pub mod MarkedTypes
pub mod MarkedRows
pub mod MarkedTypings
pub mod InterfacesErased
pub mod RowsBefore
pub mod LeastKept
pub mod SystemParents
