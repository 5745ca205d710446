pub mod FirstFaultFound
pub mod FrontAndRest
pub mod OneClassFile
pub mod OneCodeBody
pub mod OneFault
pub mod OnePoolFault
