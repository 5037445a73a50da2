pub mod GameOrders
