pub mod OneFirstFault
